use Rattle.std.proofs.Common.{Err, sym, ap, ◌∙◌, subst, arith}
use Rattle.std.proofs.lemmas.Result.{err_from_is_err_and}
use Rattle.reading.specs.Steps.{ItemRead}
use Rattle.reading.proofs.Listing.{item_is_number, item_no_number, item_no_list, item_is_list}
use Rattle.reading.proofs.cursor.Cursor.item.Goals as goal

pub returns-in_err-numbers : goal.returns-in_err-numbers
returns-in_err-numbers c =
    let p = err_from_is_err_and c.from_residual.result c.from_residual.ensures.1 in
    subst (ItemRead c.args.self.now c.numbers.new.self) (sym (p.1 ∙ ap Err p.2))
    (item_no_list c.args.self.now c.skip.new.self c.numbers.new.self c.if-skip.ensures.next c.in_err-numbers.field-0.0 c.in_err-numbers.ensures)

pub returns-in_ok-numbers : goal.returns-in_ok-numbers
returns-in_ok-numbers c = let is = item_is_list c.args.self.now c.skip.new.self c.numbers.new.self c.if-skip.ensures.next tt c.up_to.result c.in_ok-numbers.ensures in grind (arith, is)

pub returns-in_err-number : goal.returns-in_err-number
returns-in_err-number c = grind (arith, item_no_number)

pub returns-in_ok-number : goal.returns-in_ok-number
returns-in_ok-number c = grind (arith, item_is_number)
