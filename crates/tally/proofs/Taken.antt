-- A line that is taken. Assumes nothing.
use Rattle.std.proofs.Common.{◌≡◌, ℕ, ◌+◌, List, map, Ok, Err, Result, sym, ap, ◌∙◌, subst, ap₂}
use Rattle.reading.specs.Laws.{ReadSpells}
use Rattle.reading.specs.Line.{line_tokens, too_long, line_answer, error_told, AsDefined}
use Rattle.reading.specs.Told.{cause_number, told}
use Rattle.reading.specs.declared.token.ReadError.{ReadError}
use Rattle.reading.specs.declared.token.ReadError.TheVariants.{Fault, TooLong, NoMemory}
use Rattle.reading.specs.declared.token.Token.{Token}
use Rattle.forms.specs.Judging.{judged, judged_form, judged_meant, JudgesForms}
use Rattle.forms.specs.Orders.{meant}
use Rattle.forms.specs.declared.fault.FormFault.{FormFault}
use Rattle.forms.specs.declared.order.Order.{Order}
use Rattle.tally.specs.Desks.{Answer, Desk, Turn, on_desk}
use Rattle.tally.specs.Faults.{as_sheet_fault}
use Rattle.tally.specs.Sheets.{cut, form_turn, lines_text, turn_text}
use Rattle.tally.specs.Taking.{Taken, Turned}
use Rattle.tally.specs.Texts.{fault_text, reader_fault}
use Rattle.tally.specs.declared.answer.Answer.{Answer as Answered}
use Rattle.tally.specs.declared.fault.SheetFault.{SheetFault}
use Rattle.tally.proofs.Answered.{Says, answer_says}
use Rattle.tally.proofs.Lines.{read_step, fault_step, shorter}

-- the reader's fault is the sheet's
pub not_read : (d after : Desk) (line next : ℕ) (bytes rest : List ℕ) (e : ReadError) → AsDefined (error_told e) (line_answer bytes line) → Taken d line bytes (Err (as_sheet_fault e)) after next rest
not_read d after line next bytes rest (Fault e) a =
    let h = answer_says bytes line _ a in
    λ some. fault_step d line bytes (cause_number e.cause) e.place.column some h.0 ∙ ap (λ n. fault_text (reader_fault n e.place.column (cause_number e.cause))) (sym h.1)
not_read d after line next bytes rest TooLong a = answer_says bytes line too_long a
not_read d after line next bytes rest NoMemory a = tt

module _ (spells : ReadSpells) (judges : JudgesForms) (line next : ℕ) (bytes rest : List ℕ) (ts : List Token) (l : Says bytes line (line_tokens (map told ts) rest)) (n : next ≡ line + 1) where
  turned : (d after : Desk) (answer : Result Answer FormFault) → form_turn d l.0 ≡ record { answer = answer; desk = after } → Turned d line bytes answer after next rest
  turned d after answer e = (
    read_step d line bytes l.0 rest l.1
        ∙ ap (λ (t : Turn). turn_text line t (λ x. lines_text x (line + 1) (cut rest))) e
        ∙ ap (λ (m : ℕ). turn_text line (record { answer = answer; desk = after }) (λ x. lines_text x m (cut rest))) (sym n),
    shorter spells bytes l.0 rest l.1,
    n,
  )

  judged_is : (r : Result Order FormFault) → judged_meant r ≡ judged (map told ts) → judged_form l.0 ≡ judged_meant r
  judged_is r j = sym (judges l.0 line (spells bytes l.0 rest l.1).1) ∙ ap judged (sym l.2) ∙ sym j

  -- the form has a fault of its own
  pub not_judged : (d : Desk) (r : Result Order FormFault) (fault : FormFault) → judged_meant r ≡ judged (map told ts) → r ≡ Err fault → Turned d line bytes (Err fault) d next rest
  not_judged d r fault j e = turned d d (Err fault) (ap (λ v. elim v [ Ok order ↦ on_desk d order | Err x ↦ record { answer = Err x; desk = d } ]) (judged_is r j ∙ ap judged_meant e))

  -- what the form asks for is done
  pub done_so : (d after : Desk) (r : Result Order FormFault) (order : Order) (answer : Result Answer FormFault)
      → judged_meant r ≡ judged (map told ts) → r ≡ Ok order → answer ≡ (on_desk d (meant order)).answer → after ≡ (on_desk d (meant order)).desk
      → Turned d line bytes answer after next rest
  done_so d after r order answer j e a b =
      turned d after answer
      (ap (λ v. elim v [ Ok x ↦ on_desk d x | Err x ↦ record { answer = Err x; desk = d } ]) (judged_is r j ∙ ap judged_meant e) ∙ ap₂ (λ x y. record { answer = x; desk = y }) (sym a) (sym b))

-- the answer at hand is that fault

pub by_error : (d after : Desk) (line next : ℕ) (bytes rest : List ℕ) (r : Result Answered SheetFault) (fault : SheetFault) → r ≡ Err fault → Taken d line bytes (Err fault) after next rest → Taken d line bytes r after next rest
by_error d after line next bytes rest r fault e h = subst (λ x. Taken d line bytes x after next rest) (sym e) h
