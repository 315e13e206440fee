use Rattle.std.proofs.Common.{rules}
use Rattle.sharing.specs.Shares.{share_at}
use Rattle.book.proofs.Answering.{cause_of}
use Rattle.book.proofs.book.Book.enter.Goals as goal

pub returns-clause-book : goal.returns-clause-book
returns-clause-book g c =
    let row = c.fill-row.ensures (share_at g.K.Kind.ops c.args.figure c.args.strip.now) (λ i v k. search rules) in
    search rules

pub returns-in_err-may_enter-clause-book : goal.returns-in_err-may_enter-clause-book
returns-in_err-may_enter-clause-book g c =
    let said = cause_of _ _ c.in_err-may_enter.ensures in
    search rules
