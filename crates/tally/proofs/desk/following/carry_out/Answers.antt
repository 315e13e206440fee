use Rattle.std.proofs.Common.{◌≡◌, ℕ, List, Ok, Err, Result, sym, ap, ◌∙◌}
use Rattle.std.proofs.lemmas.Result.{err_from_is_err_and}
use Rattle.sharing.specs.declared.refusal.Refusal.{Refusal}
use Rattle.book.specs.Books.{answered, done as accepted}
use Rattle.book.specs.Calls.{Call, enter}
use Rattle.forms.specs.Orders.{meant}
use Rattle.forms.specs.declared.fault.FormFault.TheVariants.{Refused}
use Rattle.tally.specs.Desks.{Answer, result_of, done, on_book, passed_up}
use Rattle.tally.proofs.desk.following.carry_out.Goals as goal

refused_told : (a : Result ℕ Refusal) (write : ℕ → Answer) (refusal : Refusal) → Err refusal ≡ accepted a → Err (Refused refusal) ≡ passed_up a write
refused_told (Ok n) write refusal e = cc
refused_told (Err r) write refusal e = cc

pub returns-in_err-enter-in-Enter-clause-answer : goal.returns-in_err-enter-in-Enter-clause-answer
returns-in_err-enter-in-Enter-clause-answer g c =
    let p = err_from_is_err_and c.from_residual-in_err-enter-in-Enter.result c.from_residual-in_err-enter-in-Enter.ensures.1 in
    let o = g.K.Kind.ops in
    let pages = c.args.book.now in
    let call : List ℕ → Call = λ strip. enter c.in-Enter.line c.in-Enter.house c.in-Enter.figure strip in
    ap result_of (p.1 ∙ ap Err p.2)
    ∙ refused_told (answered o pages (call c.as_slice.result.now)) (λ _. done) _ c.in_err-enter-in-Enter.ensures.answer
    ∙ sym (ap (λ order. (on_book o pages (meant order)).answer) c.in-Enter.is ∙ ap (λ strip. passed_up (answered o pages (call strip)) (λ _. done)) (sym c.as_slice.ensures))
