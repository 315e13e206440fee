-- Reading what was written: rows, lines, letters, line states and flags after a write, at the same place and elsewhere.
-- Assumes nothing.
use Rattle.std.proofs.Common.{◌≡◌, ℕ, suc, ◌+◌, ◌-◌, ◌<◌, ◌≤◌, Bool, true, false, cond, eqb, leb, ◌≢◌, List, [], ◌∷◌, map, length, get_or, take, set, replicate, refl, ap, ◌∙◌, ap₂, ⊎_elim, arith}
use Rattle.std.specs.List.{range_with_len}
use Rattle.std.proofs.lemmas.List.FromFn.{get_or-map-range_with_len}
use Rattle.std.proofs.lemmas.List.{get_or-set_same, get_or-set_other, get_or-replicate, length-set}
use Rattle.std.proofs.lemmas.Bool.{and_parts, cases_eq, cond-true, cond-false, eq-eqb, ne_eqb, le-leb}
use Rattle.sharing.specs.Shares.{most_seats, seats_to}
use Rattle.kinds.specs.Kind.{Ops}
use Rattle.book.specs.Secrets.{at_seat, by_seat, share_held, letter_held, with_shares, with_letters, without_letters, no_codes, dealt_product}
use Rattle.book.specs.Slates.{line_count, state_of, flag, all_set, no_flags, with_line}
use Rattle.book.specs.declared.secrets.Secrets.{Secrets}
use Rattle.book.specs.Values.{Values, with_value}
use Rattle.book.specs.declared.slate.Hand.{Hand}
use Rattle.book.specs.declared.slate.Line.{Line}
use Rattle.book.specs.declared.slate.Line.TheVariants.{Empty}
use Rattle.book.specs.declared.slate.Slate.{Slate}
use Rattle.privacy.proofs.Links.{SecretsShape}

-- two seats that differ have places that differ
pub places_differ : (i j : ℕ) → 1 ≤ i → 1 ≤ j → i ≢ j → i - 1 ≢ j - 1
places_differ i j hi hj ne e = ne (omega arith)

-- ---- rows

-- a row made by a function of the seat
pub at_by_seat : (n : ℕ) (f : ℕ → ℕ) (i : ℕ) → 1 ≤ i → i ≤ n → n ≤ most_seats → at_seat (by_seat n f) i ≡ f i
at_by_seat n f i low high most =
    get_or-map-range_with_len (λ j. cond (leb j n) (f j) 0) 1 most_seats (i - 1) i 0 (omega arith) (omega arith) ∙ cond-true (leb i n) (f i) 0 (le-leb i n high)

-- functions that agree on 1 to n have the same list there
counted_same : (f g : ℕ → ℕ) (a m : ℕ) → ((i : ℕ) → a ≤ i → i < a + m → f i ≡ g i) → map f (range_with_len a m) ≡ map g (range_with_len a m)
counted_same f g a ℕ.zero same = refl
counted_same f g a (suc m) same =
    ap₂ ◌∷◌ (same a (omega arith) (omega arith)) (counted_same f g (a + 1) m (λ i low high. same i (omega arith) (omega arith)))

pub seats_same : (f g : ℕ → ℕ) (n : ℕ) → ((i : ℕ) → 1 ≤ i → i ≤ n → f i ≡ g i) → map f (seats_to n) ≡ map g (seats_to n)
seats_same f g n same = counted_same f g 1 n (λ i low high. same i low (omega arith))

-- ---- what seats hold

pub share_same : (x : Secrets) (d : ℕ) (row : List ℕ) (i : ℕ) → d < length x.shares → share_held (with_shares x d row) i d ≡ at_seat row i
share_same x d row i within = ap (λ (l : List ℕ). at_seat l i) (get_or-set_same x.shares d row [] within)

pub share_other : (x : Secrets) (d : ℕ) (row : List ℕ) (i r : ℕ) → r ≢ d → share_held (with_shares x d row) i r ≡ share_held x i r
share_other x d row i r ne = ap (λ (l : List ℕ). at_seat l i) (get_or-set_other x.shares d r row [] ne)

pub letter_same : (x : Secrets) (s : ℕ) (row : List ℕ) (i : ℕ) → 1 ≤ s → s ≤ length x.letters → letter_held (with_letters x s row) i s ≡ at_seat row i
letter_same x s row i low high = ap (λ (l : List ℕ). at_seat l i) (get_or-set_same x.letters (s - 1) row [] (omega arith))

pub letter_other : (x : Secrets) (s : ℕ) (row : List ℕ) (i r : ℕ) → 1 ≤ s → 1 ≤ r → r ≢ s → letter_held (with_letters x s row) i r ≡ letter_held x i r
letter_other x s row i r low low' ne =
    ap (λ (l : List ℕ). at_seat l i) (get_or-set_other x.letters (s - 1) (r - 1) row [] (places_differ r s low' low ne))

-- the product that a seat deals reads two lines
pub product_other : (o : Ops) (x : Secrets) (d : ℕ) (row : List ℕ) (h : Hand) → h.a ≢ d → h.b ≢ d → (i : ℕ)
    → dealt_product o (with_shares x d row) h i ≡ dealt_product o x h i
product_other o x d row h na nb i = ap₂ o.product (share_other x d row i h.a na) (share_other x d row i h.b nb)

-- one cell of a row
pub cell_same : (row : List ℕ) (i c : ℕ) → 1 ≤ i → i ≤ length row → at_seat (set row (i - 1) c) i ≡ c
cell_same row i c low high = get_or-set_same row (i - 1) c 0 (omega arith)

pub cell_other : (row : List ℕ) (i c j : ℕ) → 1 ≤ i → 1 ≤ j → j ≢ i → at_seat (set row (i - 1) c) j ≡ at_seat row j
cell_other row i c j low low' ne = get_or-set_other row (i - 1) (j - 1) c 0 (places_differ j i low' low ne)

-- rows stay as long as they are
rows_set : (rows : List (List ℕ)) (d : ℕ) (row : List ℕ) (m c : ℕ) → d < length rows → length row ≡ c → ((r : ℕ) → r < m → length (get_or rows r []) ≡ c)
    → (r : ℕ) → r < m → length (get_or (set rows d row) r []) ≡ c
rows_set rows d row m c within long old r h =
    ⊎_elim (λ (e : r ≡ d). ap (λ (j : ℕ). length (get_or (set rows d row) j [])) e ∙ ap length (get_or-set_same rows d row [] within) ∙ long)
    (λ (ne : r ≢ d). ap length (get_or-set_other rows d r row [] ne) ∙ old r h) (cases_eq r d)

module _ (x : Secrets) (shape : SecretsShape x) where
  pub shape_shares : (d : ℕ) (row : List ℕ) → d < line_count → length row ≡ most_seats → SecretsShape (with_shares x d row)
  shape_shares d row within long = record {
    shares_long = length-set x.shares d row ∙ shape.shares_long;
    rows_long = rows_set x.shares d row line_count most_seats (omega (arith, shape.shares_long)) long shape.rows_long;
    letters_long = shape.letters_long;
    letter_rows_long = shape.letter_rows_long;
  }

  pub shape_letters : (s : ℕ) (row : List ℕ) → 1 ≤ s → s ≤ most_seats → length row ≡ most_seats → SecretsShape (with_letters x s row)
  shape_letters s row low high long = record {
    shares_long = shape.shares_long;
    rows_long = shape.rows_long;
    letters_long = length-set x.letters (s - 1) row ∙ shape.letters_long;
    letter_rows_long = rows_set x.letters (s - 1) row most_seats most_seats (omega (arith, shape.letters_long)) long shape.letter_rows_long;
  }

  pub shape_cleared : SecretsShape (without_letters x)
  shape_cleared = record {
    shares_long = shape.shares_long;
    rows_long = shape.rows_long;
    letters_long = refl;
    letter_rows_long = λ s h. ap length (get_or-replicate most_seats s no_codes [] h);
  }

-- ---- values

pub value_same : (v : Values) (d a : ℕ) → with_value v d a d ≡ a
value_same v d a = cond-true (eqb d d) a (v d) (eq-eqb d d refl)

pub value_other : (v : Values) (d a r : ℕ) → r ≢ d → with_value v d a r ≡ v r
value_other v d a r ne = cond-false (eqb r d) a (v r) (ne_eqb r d ne)

-- ---- the states of lines

pub state_same : (s : Slate) (d : ℕ) (l : Line) → d < length s.lines → state_of (with_line s d l) d ≡ l
state_same s d l within = get_or-set_same s.lines d l Empty within

pub state_other : (s : Slate) (d : ℕ) (l : Line) (r : ℕ) → r ≢ d → state_of (with_line s d l) r ≡ state_of s r
state_other s d l r ne = get_or-set_other s.lines d r l Empty ne

-- ---- flags

pub flag_same : (flags : List Bool) (i : ℕ) → 1 ≤ i → i ≤ length flags → flag (set flags (i - 1) true) i ≡ true
flag_same flags i low high = get_or-set_same flags (i - 1) true false (omega arith)

pub flag_other : (flags : List Bool) (i j : ℕ) → 1 ≤ i → 1 ≤ j → j ≢ i → flag (set flags (i - 1) true) j ≡ flag flags j
flag_other flags i j low low' ne = get_or-set_other flags (i - 1) (j - 1) true false (places_differ j i low' low ne)

-- a list of one value reads as that value everywhere
pub getD_one : {A : Type 0} (m i : ℕ) (a : A) → get_or (replicate m a) i a ≡ a
getD_one ℕ.zero i a = refl
getD_one (suc m) ℕ.zero a = refl
getD_one (suc m) (suc i) a = getD_one m i a

-- no flag is set
pub flag_none : (i : ℕ) → flag no_flags i ≡ false
flag_none i = getD_one most_seats (i - 1) false

-- all flags of a list are set: so is each
all_set_at : (n : ℕ) (flags : List Bool) (i : ℕ) → i < n → n ≤ length flags → all_set (take n flags) ≡ true → get_or flags i false ≡ true
all_set_at ℕ.zero flags i h m e = absurd (omega arith)
all_set_at (suc n) [] i h m e = absurd (omega arith)
all_set_at (suc n) (b ∷ flags) ℕ.zero h m e = (and_parts b (all_set (take n flags)) e).0
all_set_at (suc n) (b ∷ flags) (suc i) h m e = all_set_at n flags i (omega arith) (omega arith) (and_parts b (all_set (take n flags)) e).1

pub flag_of_all : (n : ℕ) (flags : List Bool) (i : ℕ) → 1 ≤ i → i ≤ n → n ≤ length flags → all_set (take n flags) ≡ true → flag flags i ≡ true
flag_of_all n flags i low high m e = all_set_at n flags (i - 1) (omega arith) m e
