-- What a sheet writes for one line: a word and numbers in decimal, one space apart, and the byte that ends
-- it. Assumes nothing.
use Rattle.std.specs.Prelude.{ℕ, List, [], ◌∷◌, ◌++◌, codes, decimal}
use Rattle.std.specs.List.{flat_map}
use Rattle.reading.specs.Forms.{line_end, space}
use Rattle.forms.specs.Faults.{form_layer, form_column, form_cause}
use Rattle.forms.specs.declared.fault.FormFault.{FormFault}
use Rattle.tally.specs.Desks.{Answer, done, opened, shown}

-- a number behind a space
abbrev pub field : ℕ → List ℕ
field n = space ∷ decimal n

abbrev pub line_text : List ℕ → List ℕ → List ℕ
line_text word numbers = word ++ (flat_map field numbers ++ line_end ∷ [])

abbrev pub answer_text : Answer → List ℕ
answer_text done = line_text (codes "ok") []
answer_text (opened line total shares) = line_text (codes "open") (line ∷ total ∷ shares)
answer_text (shown seat entries) = line_text (codes "show") (seat ∷ entries)

-- a fault's line: layer, line, column and cause
abbrev pub fault_text : List ℕ → List ℕ
fault_text numbers = line_text (codes "no") numbers

abbrev pub reader_fault : (line column cause : ℕ) → List ℕ
reader_fault line column cause = 1 ∷ line ∷ column ∷ cause ∷ []

abbrev pub form_fault : ℕ → FormFault → List ℕ
form_fault line fault = form_layer fault ∷ line ∷ form_column fault ∷ form_cause fault ∷ []

-- the fault of a sheet that is too long, which has no place
abbrev pub too_long : List ℕ
too_long = reader_fault 0 0 26
