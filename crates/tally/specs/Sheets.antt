-- What a whole sheet writes. Its lines are taken one by one: each is read whole, then judged, then run. Assumes nothing.
use Rattle.std.specs.Prelude.{ℕ, ◌+◌, Bool, cond, List, [], ◌∷◌, ◌++◌, length, Ok, Err, ◌==◌, nat_lt}
use Rattle.reading.specs.Forms.{line_end, most_bytes, Form}
use Rattle.reading.specs.Read.{form_read, faulted, read}
use Rattle.forms.specs.Faults.{book_layer, form_layer}
use Rattle.forms.specs.Judging.{judged_form}
use Rattle.forms.specs.declared.fault.FormFault.{FormFault}
use Rattle.tally.specs.Desks.{Desk, bare, Turn, on_desk}
use Rattle.tally.specs.Texts.{answer_text, fault_text, form_fault, reader_fault, too_long}

-- one byte more in front of the first line
abbrev pub longer : ℕ → List (List ℕ) → List (List ℕ)
longer b [] = (b ∷ []) ∷ []
longer b (l ∷ ls) = (b ∷ l) ∷ ls

-- the sheet cut behind each byte that ends a line
abbrev pub cut : List ℕ → List (List ℕ)
cut [] = []
cut (b ∷ bs) = cond (b == line_end) ((b ∷ []) ∷ cut bs) (longer b (cut bs))

-- a form is judged, and what it asks for is done
abbrev pub form_turn : Desk → Form → Turn
form_turn d f = elim (judged_form f) [ Ok order ↦ on_desk d order | Err fault ↦ record { answer = Err fault; desk = d } ]

-- after layers 1 and 2 the sheet stops, after layer 3, the book's refusal, it goes on
abbrev pub goes_on : FormFault → Bool
goes_on fault = form_layer fault == book_layer

-- what a form writes, and then what the rest writes at the desk that it left
abbrev pub turn_text : ℕ → Turn → (Desk → List ℕ) → List ℕ
turn_text line t rest =
    elim t.answer [ Ok answer ↦ answer_text answer ++ rest t.desk | Err fault ↦ fault_text (form_fault line fault) ++ cond (goes_on fault) (rest t.desk) [] ]

-- what the lines write, of which the first has the number
abbrev pub lines_text : Desk → ℕ → List (List ℕ) → List ℕ
lines_text d line [] = []
lines_text d line (l ∷ ls) =
    elim (read l) [ form_read f rest ↦ turn_text line (form_turn d f) (λ e. lines_text e (line + 1) ls) | faulted cause column ↦ fault_text (reader_fault line column cause) ]

abbrev pub sheet_text : List ℕ → List ℕ
sheet_text sheet = cond (nat_lt most_bytes (length sheet)) (fault_text too_long) (lines_text bare 1 (cut sheet))
