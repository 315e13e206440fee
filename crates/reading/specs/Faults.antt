-- What a fault says of the line's bytes. Assumes nothing.
use Rattle.std.specs.Prelude.{◌≡◌, ℕ, ◌+◌, ◌≤◌, true, false, ◌⊎◌, List, [], ◌∷◌, ◌++◌, length}
use Rattle.std.specs.List.{flat_map}
use Rattle.reading.specs.Forms.{Form, is_letter, is_digit, is_number, all, begins, opened, spell, Each, Number, Run, Proper, Loose}
use Rattle.reading.specs.Read.{State, before, in_word, after_item, at_item, in_number, at_list, at_number, in_list, closed, faulted, read}

-- numbers with a space behind each
abbrev pub lead : List (List ℕ) → List ℕ
lead ns = flat_map (λ n. n ++ 32 ∷ []) ns

-- the bytes that have led to a state
abbrev pub so_far : State → List ℕ
so_far before = []
so_far (in_word w) = 40 ∷ w
so_far (after_item f) = opened f
so_far (at_item f) = opened f ++ 32 ∷ []
so_far (in_number f ds) = opened f ++ 32 ∷ ds
so_far (at_list f) = opened f ++ 32 ∷ 40 ∷ []
so_far (at_number f ns) = opened f ++ 32 ∷ 40 ∷ lead ns
so_far (in_list f ns ds) = opened f ++ 32 ∷ 40 ∷ (lead ns ++ ds)
so_far (closed f) = opened f ++ 41 ∷ []

-- each run of digits so far is a number, and no list so far has a tenth
abbrev pub CleanState : State → Type 0
CleanState before = Unit {0}
CleanState (in_word w) = all is_letter w ≡ true
CleanState (after_item f) = Proper f
CleanState (at_item f) = Proper f
CleanState (in_number f ds) = Proper f × Number ds
CleanState (at_list f) = Proper f
CleanState (at_number f ns) = Proper f × (length ns ≤ 9) × Each Number ns
CleanState (in_list f ns ds) = Proper f × (length (ns ++ ds ∷ []) ≤ 9) × Each Number (ns ++ ds ∷ [])
CleanState (closed f) = Proper f

-- no run of digits in the bytes is no number, and no number in them is the tenth of its list
abbrev pub Clean : List ℕ → Type 0
Clean bytes = (s : State) × (so_far s ≡ bytes) × CleanState s

-- the bytes are the beginning of some loose line, and not all of it
abbrev pub Inside : List ℕ → Type 0
Inside bytes = (f : Form) × (x : ℕ) × (rest : List ℕ) × Loose f × (bytes ++ x ∷ rest ≡ spell f)

-- the bytes begin some loose line
abbrev pub Begins : List ℕ → Type 0
Begins bytes = (f : Form) × (rest : List ℕ) × Loose f × (bytes ++ rest ≡ spell f)

-- with the next byte they begin none; at the sheet's end there is no next byte
abbrev pub WrongByte : List ℕ → List ℕ → Type 0
WrongByte front [] = Unit {0}
WrongByte front (b ∷ bs) = Begins (front ++ b ∷ []) → ⊥

-- a number's first digit may come next
abbrev pub AwaitsNumber : State → Type 0
AwaitsNumber before = ⊥
AwaitsNumber (in_word w) = ⊥
AwaitsNumber (after_item f) = ⊥
AwaitsNumber (at_item f) = Unit {0}
AwaitsNumber (in_number f ds) = ⊥
AwaitsNumber (at_list f) = Unit {0}
AwaitsNumber (at_number f ns) = Unit {0}
AwaitsNumber (in_list f ns ds) = ⊥
AwaitsNumber (closed f) = ⊥

abbrev pub AtNumber : List ℕ → Type 0
AtNumber bytes = (s : State) × (so_far s ≡ bytes) × CleanState s × AwaitsNumber s

-- a whole run of digits, in a number's place, that is no number
abbrev pub WrongDigits : List ℕ → List ℕ → Type 0
WrongDigits front bs =
    (ds after : List ℕ) × (ds ++ after ≡ bs) × Run ds × (is_number ds ≡ false) × (begins is_digit after ≡ false) × Inside (front ++ ds)
    × AtNumber front

-- a number, behind nine others of its list
abbrev pub Tenth : List ℕ → List ℕ → Type 0
Tenth front bs =
    (f : Form) × (ns : List (List ℕ)) × (ds after : List ℕ) × Proper f × Each Number ns × (opened f ++ 32 ∷ 40 ∷ lead ns ≡ front)
    × (length ns ≡ 9) × (ds ++ after ≡ bs) × Number ds × (begins is_digit after ≡ false)

-- The bytes before the column, front, are inside a loose line and clean, so that no fault lies to the left, and at the column the cause is there.
abbrev pub Leftmost : List ℕ → ℕ → ℕ → Type 0
Leftmost bytes cause column =
    (front bs : List ℕ) × (front ++ bs ≡ bytes) × (column ≡ length front + 1) × Inside front × Clean front
    × (((cause ≡ 20) × WrongByte front bs) ⊎ (((cause ≡ 21) × WrongDigits front bs) ⊎ ((cause ≡ 22) × Tenth front bs)))

-- a fault is the leftmost of its line
abbrev pub FaultIsLeftmost : Type 0
FaultIsLeftmost = (bytes : List ℕ) (cause column : ℕ) → read bytes ≡ faulted cause column → Leftmost bytes cause column
