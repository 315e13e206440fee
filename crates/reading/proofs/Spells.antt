-- What is read spells the line: the state has all the bytes so far, and what it has is proper. Assumes nothing.
use Rattle.std.proofs.Common.{◌≡◌, ℕ, ◌+◌, ◌<◌, ◌≤◌, Bool, true, false, eqb, List, [], ◌∷◌, ◌++◌, length, sym, refl, append_assoc, append-nil, arith}
use Rattle.std.proofs.lemmas.Bool.{cond_both}
use Rattle.std.proofs.lemmas.List.{length_push, flat_map_more}
use Rattle.reading.specs.Forms.{Form, Piece, number, numbers, is_letter, is_digit, all, spaced, spell_item, opened, spell, Each, Word, Number, Run, ProperPiece, Proper}
use Rattle.reading.specs.Read.{Reading, State, Step, faulted, form_read, goes, ends, refuses, before, in_word, after_item, at_item, in_number, at_list, at_number, in_list, closed, step, run, judged, next_item, next_number, with_item}
use Rattle.reading.specs.Faults.{lead, so_far}
use Rattle.reading.specs.Laws.{ReadSpells}
use Rattle.reading.proofs.Forward.{then-run}

pub lead_more : (ns : List (List ℕ)) (ds : List ℕ) → lead (ns ++ ds ∷ []) ≡ lead ns ++ (ds ++ 32 ∷ [])
lead_more ns ds = sym (flat_map_more (λ n. n ++ 32 ∷ []) [] ns ds)

pub spaced_more : (ns : List (List ℕ)) (ds : List ℕ) → spaced (ns ++ ds ∷ []) ≡ lead ns ++ ds
spaced_more [] ds = refl
spaced_more (n ∷ []) ds = grind (arith, append_assoc, append-nil)
spaced_more (n ∷ m ∷ ns) ds = grind (arith, append_assoc, spaced_more (m ∷ ns) ds)

pub opened_more : (f : Form) (p : Piece) → opened (with_item f p) ≡ opened f ++ spell_item p
opened_more f p = sym (flat_map_more spell_item (40 ∷ f.word) f.items p)

abbrev pub Spells : State → ℕ → Step → Type 0
Spells s b (goes t) = so_far t ≡ so_far s ++ b ∷ []
Spells s b (ends f) = spell f ≡ so_far s ++ b ∷ []
Spells s b refuses = Unit {0}

next_item_spells : (s : State) (f : Form) (b : ℕ) → opened f ≡ so_far s → Spells s b (next_item f b)
next_item_spells s f b h = grind arith

list_spells : (f : Form) (ns : List (List ℕ)) (ds : List ℕ) (b : ℕ) → Spells (in_list f ns ds) b (next_number f (ns ++ ds ∷ []) b)
list_spells f ns ds b = grind (arith, append_assoc, lead_more, opened_more, spaced_more)

pub step_spells : (s : State) (b : ℕ) → Spells s b (step s b)
step_spells before b = grind arith
step_spells (in_word w) b = grind (arith, next_item_spells, append-nil)
step_spells (after_item f) b = next_item_spells (after_item f) f b refl
step_spells (at_item f) b = grind (arith, append_assoc)
step_spells (in_number f ds) b = grind (arith, append_assoc, next_item_spells, opened_more)
step_spells (at_list f) b = grind (arith, append_assoc, opened_more)
step_spells (at_number f ns) b = grind (arith, append_assoc)
step_spells (in_list f ns ds) b = grind (arith, append_assoc, list_spells)
step_spells (closed f) b = grind (arith, append_assoc)

pub each_more : {A : Type 0} (P : A → Type 0) (xs : List A) (x : A) → Each P xs → P x → Each P (xs ++ x ∷ [])
each_more P [] x h p = grind arith
each_more P (y ∷ xs) x h p = grind (arith, each_more P xs)

pub all_more : (t : ℕ → Bool) (xs : List ℕ) (x : ℕ) → all t xs ≡ true → t x ≡ true → all t (xs ++ x ∷ []) ≡ true
all_more t [] x h p = grind arith
all_more t (y ∷ xs) x h p = grind (arith, all_more t xs x)

-- What a state keeps, for pieces that are P, lists so far that are N and runs so far that are R; Ended and Listed say what is known where a run ends.
pub record Rules (P : Piece → Type 0) (N : List (List ℕ) → Type 0) (Ended : List ℕ → Type 0) (Listed : List (List ℕ) → List ℕ → Type 0) : Type 0 where
  pub none : N []
  pub list : (ns : List (List ℕ)) → N ns → P (numbers ns)
  pub item : (ds : List ℕ) → Run ds → Ended ds → P (number ds)
  pub more : (ns : List (List ℕ)) (ds : List ℕ) → N ns → Run ds → Listed ns ds → N (ns ++ ds ∷ [])

abbrev pub Whole : (Piece → Type 0) → Form → Type 0
Whole P f = Word f.word × Each P f.items

abbrev pub Keeps : (Piece → Type 0) → (List (List ℕ) → Type 0) → State → Type 0
Keeps P N before = Unit {0}
Keeps P N (in_word w) = (length w ≤ 8) × (all is_letter w ≡ true)
Keeps P N (after_item f) = Whole P f
Keeps P N (at_item f) = Whole P f
Keeps P N (in_number f ds) = Whole P f × Run ds
Keeps P N (at_list f) = Whole P f
Keeps P N (at_number f ns) = Whole P f × N ns
Keeps P N (in_list f ns ds) = Whole P f × N ns × Run ds
Keeps P N (closed f) = Whole P f

abbrev pub Kept : (Piece → Type 0) → (List (List ℕ) → Type 0) → Step → Type 0
Kept P N (goes t) = Keeps P N t
Kept P N (ends f) = Whole P f
Kept P N refuses = Unit {0}

-- what is known where a run of digits has ended
abbrev pub Passed : (List ℕ → Type 0) → (List (List ℕ) → List ℕ → Type 0) → State → Type 0
Passed Ended Listed before = Unit {0}
Passed Ended Listed (in_word w) = Unit {0}
Passed Ended Listed (after_item f) = Unit {0}
Passed Ended Listed (at_item f) = Unit {0}
Passed Ended Listed (in_number f ds) = Ended ds
Passed Ended Listed (at_list f) = Unit {0}
Passed Ended Listed (at_number f ns) = Unit {0}
Passed Ended Listed (in_list f ns ds) = Listed ns ds
Passed Ended Listed (closed f) = Unit {0}

run_one : (b : ℕ) → is_digit b ≡ true → Run (b ∷ [])
run_one b d = grind arith

run_more : (ds : List ℕ) (b : ℕ) → Run ds → is_digit b ≡ true → Run (ds ++ b ∷ [])
run_more ds b r d = grind (arith, length_push, all_more)

module _ {P : Piece → Type 0} {N : List (List ℕ) → Type 0} {Ended : List ℕ → Type 0} {Listed : List (List ℕ) → List ℕ → Type 0} (k : Rules P N Ended Listed) where
  next_item_keeps : (f : Form) (b : ℕ) → Whole P f → Kept P N (next_item f b)
  next_item_keeps f b h = grind arith

  item_more : (f : Form) (p : Piece) → Whole P f → P p → Whole P (with_item f p)
  item_more f p h q = (h.0, each_more P f.items p h.1 q)

  next_number_keeps : (f : Form) (ns : List (List ℕ)) (b : ℕ) → Whole P f → N ns → Kept P N (next_number f ns b)
  next_number_keeps f ns b h n = grind (arith, item_more, k.list)

  pub step_keeps : (s : State) (b : ℕ) → Keeps P N s → (is_digit b ≡ false → Passed Ended Listed s) → Kept P N (step s b)
  step_keeps before b h p = grind arith
  step_keeps (in_word w) b h p = grind (arith, all_more, next_item_keeps, length_push)
  step_keeps (after_item f) b h p = next_item_keeps f b h
  step_keeps (at_item f) b h p = grind (arith, run_one)
  step_keeps (in_number f ds) b h p =
      cond_both (is_digit b) _ _ (Kept P N) (λ d. (h.0, run_more ds b h.1 d)) (λ d. next_item_keeps (with_item f (number ds)) b (item_more f (number ds) h.0 (k.item ds h.1 (p d))))
  step_keeps (at_list f) b h p =
      cond_both (is_digit b) _ _ (Kept P N) (λ d. (h, k.none, run_one b d)) (λ _. cond_both (eqb b 41) _ _ (Kept P N) (λ _. item_more f (numbers []) h (k.list [] k.none)) (λ _. tt))
  step_keeps (at_number f ns) b h p = grind (arith, run_one)
  step_keeps (in_list f ns ds) b h p =
      cond_both (is_digit b) _ _ (Kept P N) (λ d. (h.0, h.1, run_more ds b h.2 d)) (λ d. next_number_keeps f (ns ++ ds ∷ []) b h.0 (k.more ns ds h.1 h.2 (p d)))
  step_keeps (closed f) b h p = grind arith

-- the strict rules: a run that has ended is a number, and at most the ninth of its list
abbrev pub Short : List (List ℕ) → Type 0
Short ns = (length ns ≤ 9) × Each Number ns

abbrev pub Ninth : List (List ℕ) → List ℕ → Type 0
Ninth ns ds = Number ds × (length ns < 9)

pub strict : Rules ProperPiece Short Number Ninth
strict = record {
  none = (omega arith, tt);
  list = λ ns n. n;
  item = λ ds r v. v;
  more = λ ns ds n r v. (omega (arith, length_push ns ds), each_more Number ns ds n.1 v.0);
}

abbrev pub Sound : State → Type 0
Sound s = Keeps ProperPiece Short s

-- a run that is judged leads on only where it passes
pub passes : (s : State) (c : ℕ) (r : Reading) (f : Form) (rest : List ℕ) → judged s c r ≡ form_read f rest → Passed Number Ninth s × (r ≡ form_read f rest)
passes before c r f rest e = (tt, e)
passes (in_word w) c r f rest e = (tt, e)
passes (after_item g) c r f rest e = (tt, e)
passes (at_item g) c r f rest e = (tt, e)
passes (in_number g ds) c r f rest e = grind arith
passes (at_list g) c r f rest e = (tt, e)
passes (at_number g ns) c r f rest e = (tt, e)
passes (in_list g ns ds) c r f rest e = grind arith
passes (closed g) c r f rest e = (tt, e)

never_faulted : (k c : ℕ) (f : Form) (rest : List ℕ) → faulted k c ≡ form_read f rest → ⊥
never_faulted k c f rest e = cc

-- what a byte that leads to a form has passed
pub passed_on : (s : State) (c b : ℕ) (bs : List ℕ) (f : Form) (rest : List ℕ) → run s c (b ∷ bs) ≡ form_read f rest → (is_digit b ≡ false → Passed Number Ninth s) × (then-run (step s b) c bs ≡ form_read f rest)
passed_on s c b bs f rest e = grind (arith, passes)

abbrev Ends : State → List ℕ → Form → List ℕ → Type 0
Ends s bs f rest = (spell f ++ rest ≡ so_far s ++ bs) × Proper f

spelled_on : (s : State) (c b : ℕ) (bs : List ℕ) (f : Form) (rest : List ℕ) (x : Step) → Spells s b x → Kept ProperPiece Short x → then-run x c bs ≡ form_read f rest → ((t : State) → Sound t → run t (c + 1) bs ≡ form_read f rest → Ends t bs f rest) → Ends s (b ∷ bs) f rest
spelled_on s c b bs f rest (goes t) is kept e on = grind (arith, append_assoc)
spelled_on s c b bs f rest (ends g) is kept e on = grind (arith, append_assoc)
spelled_on s c b bs f rest refuses is kept e on = cc

run_spells : (bs : List ℕ) (s : State) (c : ℕ) (f : Form) (rest : List ℕ) → Sound s → run s c bs ≡ form_read f rest → Ends s bs f rest
run_spells [] s c f rest h e = absurd (never_faulted 20 c f rest (passes s c _ f rest e).1)
run_spells (b ∷ bs) s c f rest h e =
    let p = passed_on s c b bs f rest e in
    spelled_on s c b bs f rest (step s b) (step_spells s b) (step_keeps strict s b h p.0) p.1 (λ t k r. run_spells bs t (c + 1) f rest k r)

pub read_spells : ReadSpells
read_spells bytes f rest e = run_spells bytes before 1 f rest tt e
