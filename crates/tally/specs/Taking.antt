-- What the taking of one line says of what the sheet writes. Assumes nothing.
use Rattle.std.specs.Prelude.{◌≡◌, ℕ, ◌+◌, ◌<◌, Bool, true, false, List, [], ◌∷◌, length, Some, None, Ok, Err, Option, Result}
use Rattle.reading.specs.Line.{most_left}
use Rattle.reading.specs.Told.{cause_number}
use Rattle.forms.specs.Faults.{layer_number}
use Rattle.forms.specs.declared.fault.FormFault.{FormFault}
use Rattle.tally.specs.Desks.{Desk, Answer, answer_of}
use Rattle.tally.specs.Sheets.{cut, goes_on, lines_text, turn_text}
use Rattle.tally.specs.Texts.{answer_text, fault_text, form_fault, reader_fault, too_long}
use Rattle.tally.specs.declared.answer.Answer.{Answer as Answered}
use Rattle.tally.specs.declared.fault.SheetFault.{SheetFault}
use Rattle.tally.specs.declared.fault.ToldFault.{ToldFault}
use Rattle.tally.specs.declared.fault.SheetFault.TheVariants.{TooLong, Reading, Form, NoMemory}

-- a form was read and judged, and the rest of the sheet is left
abbrev pub Turned : Desk → ℕ → List ℕ → Result Answer FormFault → Desk → ℕ → List ℕ → Type 0
Turned d line bytes answer after next rest =
    (lines_text d line (cut bytes) ≡ turn_text line (record { answer = answer; desk = after }) (λ e. lines_text e next (cut rest)))
    × (length rest < length bytes)
    × (next ≡ line + 1)

-- a line was taken: at the desk d the bytes were left, and at the desk after it the rest is
abbrev pub Taken : Desk → ℕ → List ℕ → Result Answered SheetFault → Desk → ℕ → List ℕ → Type 0
Taken d line bytes (Ok answer) after next rest = Turned d line bytes (Ok (answer_of answer)) after next rest
Taken d line bytes (Err (Form fault)) after next rest = Turned d line bytes (Err fault) after next rest
Taken d line bytes (Err (Reading fault)) after next rest =
    0 < length bytes → lines_text d line (cut bytes) ≡ fault_text (reader_fault fault.place.line fault.place.column (cause_number fault.cause))
Taken d line bytes (Err TooLong) after next rest = most_left < line + length bytes
Taken d line bytes (Err NoMemory) after next rest = Unit {0}

-- layer, line, column and cause, by their numbers
abbrev pub numbers_of : ToldFault → List ℕ
numbers_of told = layer_number told.layer ∷ told.place.line ∷ told.place.column ∷ told.cause ∷ []

abbrev pub fault_numbers : ℕ → SheetFault → Option (List ℕ)
fault_numbers line TooLong = Some too_long
fault_numbers line (Reading fault) = Some (reader_fault fault.place.line fault.place.column (cause_number fault.cause))
fault_numbers line (Form fault) = Some (form_fault line fault)
fault_numbers line NoMemory = None

abbrev pub fault_goes_on : SheetFault → Bool
fault_goes_on TooLong = false
fault_goes_on (Reading fault) = false
fault_goes_on (Form fault) = goes_on fault
fault_goes_on NoMemory = false

-- what is written of a line, and whether the sheet goes on
abbrev pub Written : ℕ → Result Answered SheetFault → List ℕ → Bool → Type 0
Written line (Ok answer) text goes = (text ≡ answer_text (answer_of answer)) × (goes ≡ true)
Written line (Err fault) text goes =
    (numbers : List ℕ) × (fault_numbers line fault ≡ Some numbers) × (text ≡ fault_text numbers) × (goes ≡ fault_goes_on fault)
