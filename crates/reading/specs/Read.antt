-- The reading of a line, byte by byte from the left up to the first fault. Assumes nothing.
use Rattle.std.specs.Prelude.{ℕ, ◌+◌, ◌-◌, cond, List, [], ◌∷◌, ◌++◌, length, ◌==◌, nat_lt}
use Rattle.reading.specs.Forms.{Piece, number, numbers, Form, is_letter, is_digit, is_number}

pub data Reading : Type 0 where
  form_read : (f : Form) (rest : List ℕ) → Reading
  faulted : (cause column : ℕ) → Reading

-- Where the reading stands: f is the form so far, ns are the numbers of the list so far, and ds are the digits of the run so far.
pub data State : Type 0 where
  before : State
  in_word : (w : List ℕ) → State
  after_item : (f : Form) → State
  at_item : (f : Form) → State
  in_number : (f : Form) (ds : List ℕ) → State
  at_list : (f : Form) → State
  at_number : (f : Form) (ns : List (List ℕ)) → State
  in_list : (f : Form) (ns : List (List ℕ)) (ds : List ℕ) → State
  closed : (f : Form) → State

pub data Step : Type 0 where
  goes : State → Step
  ends : Form → Step
  refuses : Step

abbrev pub form_of : List ℕ → Form
form_of w = record { word = w; items = [] }

abbrev pub with_item : Form → Piece → Form
with_item f p = record { word = f.word; items = f.items ++ p ∷ [] }

-- after a word or an item, " " or ")"
abbrev pub next_item : Form → ℕ → Step
next_item f b = cond (b == 32) (goes (at_item f)) (cond (b == 41) (goes (closed f)) refuses)

-- after a number of a list, " " or ")"
abbrev pub next_number : Form → List (List ℕ) → ℕ → Step
next_number f ns b = cond (b == 32) (goes (at_number f ns)) (cond (b == 41) (goes (after_item (with_item f (numbers ns)))) refuses)

-- what one more byte does by the line's rule, which lets runs of digits and lists of any length by
abbrev pub step : State → ℕ → Step
step before b = cond (b == 40) (goes (in_word [])) refuses
step (in_word w) b =
    cond (is_letter b) (cond (nat_lt (length w) 8) (goes (in_word (w ++ b ∷ []))) refuses) (cond (nat_lt 0 (length w)) (next_item (form_of w) b) refuses)
step (after_item f) b = next_item f b
step (at_item f) b = cond (is_digit b) (goes (in_number f (b ∷ []))) (cond (b == 40) (goes (at_list f)) refuses)
step (in_number f ds) b = cond (is_digit b) (goes (in_number f (ds ++ b ∷ []))) (next_item (with_item f (number ds)) b)
step (at_list f) b =
    cond (is_digit b) (goes (in_list f [] (b ∷ []))) (cond (b == 41) (goes (after_item (with_item f (numbers [])))) refuses)
step (at_number f ns) b = cond (is_digit b) (goes (in_list f ns (b ∷ []))) refuses
step (in_list f ns ds) b = cond (is_digit b) (goes (in_list f ns (ds ++ b ∷ []))) (next_number f (ns ++ ds ∷ []) b)
step (closed f) b = cond (b == 10) (ends f) refuses

-- The run of digits that ends before column c is judged, at the column of its first digit; where it is sound, the reading is r.
abbrev pub judged : State → ℕ → Reading → Reading
judged before c r = r
judged (in_word w) c r = r
judged (after_item f) c r = r
judged (at_item f) c r = r
judged (in_number f ds) c r = cond (is_number ds) r (faulted 21 (c - length ds))
judged (at_list f) c r = r
judged (at_number f ns) c r = r
judged (in_list f ns ds) c r = cond (is_number ds) (cond (nat_lt (length ns) 9) r (faulted 22 (c - length ds))) (faulted 21 (c - length ds))
judged (closed f) c r = r

-- the reading after a step at column c, where bs are the bytes behind it and go reads on
abbrev pub onward : Step → ℕ → List ℕ → (State → Reading) → Reading
onward (goes s) c bs go = go s
onward (ends f) c bs go = form_read f bs
onward refuses c bs go = faulted 20 c

-- reads on at column c
abbrev pub run : State → ℕ → List ℕ → Reading
run s c [] = judged s c (faulted 20 c)
run s c (b ∷ bs) =
    cond (is_digit b) (onward (step s b) c bs (λ t. run t (c + 1) bs)) (judged s c (onward (step s b) c bs (λ t. run t (c + 1) bs)))

abbrev pub read : List ℕ → Reading
read bs = run before 1 bs
