use Rattle.std.proofs.Common.{rules}
use Rattle.book.specs.Secrets.{share_held}
use Rattle.book.proofs.Answering.{cause_of}
use Rattle.book.proofs.book.Book.sum.Goals as goal

pub returns-clause-book : goal.returns-clause-book
returns-clause-book g c =
    let o = g.K.Kind.ops in
    let x = c.args.self.now.secrets in
    let row = c.fill-row.ensures (λ i. o.sum (share_held x i c.args.a) (share_held x i c.args.b)) (λ i v k. search rules) in
    search rules

pub returns-in_err-may_combine-clause-book : goal.returns-in_err-may_combine-clause-book
returns-in_err-may_combine-clause-book g c =
    let said = cause_of _ _ c.in_err-may_combine.ensures in
    search rules
