-- How the reading goes over a whole word, a whole run of digits, and the end of each. Assumes nothing.
use Rattle.std.proofs.Common.{◌≡◌, ℕ, ◌+◌, ◌-◌, ◌<◌, ◌≤◌, true, false, List, [], ◌∷◌, ◌++◌, length, refl, append_assoc, append-nil, add-zero, arith}
use Rattle.std.proofs.lemmas.Bool.{cond-true}
use Rattle.std.proofs.lemmas.List.{length_push}
use Rattle.reading.specs.Forms.{Form, number, is_letter, is_digit, is_number, all, begins}
use Rattle.reading.specs.Read.{Reading, State, Step, faulted, goes, in_word, after_item, at_item, in_number, at_number, in_list, step, run, onward, next_number, form_of, with_item}

-- the reading behind a step
abbrev pub then-run : Step → ℕ → List ℕ → Reading
then-run x c bs = onward x c bs (λ t. run t (c + 1) bs)

-- a digit judges nothing
pub run_digit : (s : State) (c b : ℕ) (bs : List ℕ) → is_digit b ≡ true → run s c (b ∷ bs) ≡ then-run (step s b) c bs
run_digit s c b bs d = cond-true (is_digit b) _ _ d

pub one_letter : (w : List ℕ) (c b : ℕ) (bs : List ℕ) → is_letter b ≡ true → length w < 8 → run (in_word w) c (b ∷ bs) ≡ run (in_word (w ++ b ∷ [])) (c + 1) bs
one_letter w c b bs l h = grind arith

pub run_letters : (xs w : List ℕ) (c : ℕ) (r : List ℕ) → all is_letter xs ≡ true → length w + length xs ≤ 8 → run (in_word w) c (xs ++ r) ≡ run (in_word (w ++ xs)) (c + length xs) r
run_letters [] w c r a h = rw (append-nil, add-zero)
run_letters (x ∷ xs) w c r a h = grind (arith, one_letter w c x (xs ++ r), run_letters xs (w ++ x ∷ []) (c + 1) r, append_assoc w (x ∷ []) xs, length_push w x)

module _ (K : List ℕ → State) (one : (ds : List ℕ) (b : ℕ) → is_digit b ≡ true → step (K ds) b ≡ goes (K (ds ++ b ∷ []))) where
  pub run_digits : (xs ds : List ℕ) (c : ℕ) (r : List ℕ) → all is_digit xs ≡ true → run (K ds) c (xs ++ r) ≡ run (K (ds ++ xs)) (c + length xs) r
  run_digits [] ds c r a = rw (append-nil, add-zero)
  run_digits (x ∷ xs) ds c r a = grind (arith, one ds x, run_digits xs (ds ++ x ∷ []) (c + 1) r, append_assoc ds (x ∷ []) xs)

  pub run_all : (s : State) → ((b : ℕ) → is_digit b ≡ true → step s b ≡ goes (K (b ∷ []))) → (xs : List ℕ) (c : ℕ) (r : List ℕ) → 0 < length xs → all is_digit xs ≡ true → run s c (xs ++ r) ≡ run (K xs) (c + length xs) r
  run_all s first [] c r h a = absurd (omega arith)
  run_all s first (x ∷ xs) c r h a = grind (arith, first x, run_digits xs (x ∷ []) (c + 1) r)

-- a whole run of digits, as an item and in a list
pub run_number : (f : Form) (xs : List ℕ) (c : ℕ) (r : List ℕ) → 0 < length xs → all is_digit xs ≡ true → run (at_item f) c (xs ++ r) ≡ run (in_number f xs) (c + length xs) r
run_number f = run_all (in_number f) (λ ds b d. cond-true (is_digit b) _ _ d) (at_item f) (λ b d. cond-true (is_digit b) _ _ d)

pub run_listed : (f : Form) (ns : List (List ℕ)) (xs : List ℕ) (c : ℕ) (r : List ℕ) → 0 < length xs → all is_digit xs ≡ true → run (at_number f ns) c (xs ++ r) ≡ run (in_list f ns xs) (c + length xs) r
run_listed f ns = run_all (in_list f ns) (λ ds b d. cond-true (is_digit b) _ _ d) (at_number f ns) (λ b d. cond-true (is_digit b) _ _ d)

-- the end of a word and of a run of digits
pub word_ends : (w : List ℕ) (c : ℕ) (r : List ℕ) → 0 < length w → begins is_letter r ≡ false → run (in_word w) c r ≡ run (after_item (form_of w)) c r
word_ends w c [] h n = refl
word_ends w c (b ∷ bs) h n = grind arith

pub word_empty : (c : ℕ) (r : List ℕ) → begins is_letter r ≡ false → run (in_word []) c r ≡ faulted 20 c
word_empty c [] n = refl
word_empty c (b ∷ bs) n = grind arith

pub word_full : (w : List ℕ) (c : ℕ) (r : List ℕ) → 8 ≤ length w → begins is_letter r ≡ true → run (in_word w) c r ≡ faulted 20 c
word_full w c [] h n = refl
word_full w c (b ∷ bs) h n = grind arith

pub number_ends : (f : Form) (ds : List ℕ) (c : ℕ) (r : List ℕ) → is_number ds ≡ true → begins is_digit r ≡ false → run (in_number f ds) c r ≡ run (after_item (with_item f (number ds))) c r
number_ends f ds c [] v n = grind arith
number_ends f ds c (b ∷ bs) v n = grind arith

pub number_wrong : (f : Form) (ds : List ℕ) (c : ℕ) (r : List ℕ) → is_number ds ≡ false → begins is_digit r ≡ false → run (in_number f ds) c r ≡ faulted 21 (c - length ds)
number_wrong f ds c [] v n = grind arith
number_wrong f ds c (b ∷ bs) v n = grind arith

-- the reading of a list behind the numbers ns, where no digit follows
abbrev pub past_number : Form → List (List ℕ) → ℕ → List ℕ → Reading
past_number f ns c [] = faulted 20 c
past_number f ns c (b ∷ bs) = then-run (next_number f ns b) c bs

pub listed_ends : (f : Form) (ns : List (List ℕ)) (ds : List ℕ) (c : ℕ) (r : List ℕ) → is_number ds ≡ true → length ns < 9 → begins is_digit r ≡ false → run (in_list f ns ds) c r ≡ past_number f (ns ++ ds ∷ []) c r
listed_ends f ns ds c [] v h n = grind arith
listed_ends f ns ds c (b ∷ bs) v h n = grind arith

pub listed_wrong : (f : Form) (ns : List (List ℕ)) (ds : List ℕ) (c : ℕ) (r : List ℕ) → is_number ds ≡ false → begins is_digit r ≡ false → run (in_list f ns ds) c r ≡ faulted 21 (c - length ds)
listed_wrong f ns ds c [] v n = grind arith
listed_wrong f ns ds c (b ∷ bs) v n = grind arith

pub listed_tenth : (f : Form) (ns : List (List ℕ)) (ds : List ℕ) (c : ℕ) (r : List ℕ) → is_number ds ≡ true → 9 ≤ length ns → begins is_digit r ≡ false → run (in_list f ns ds) c r ≡ faulted 22 (c - length ds)
listed_tenth f ns ds c [] v h n = grind arith
listed_tenth f ns ds c (b ∷ bs) v h n = grind arith
