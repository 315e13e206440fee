use Rattle.std.proofs.Common.{rules}
use Rattle.book.specs.Secrets.{share_held}
use Rattle.book.proofs.book.Book.scale.Goals as goal

pub returns-clause-book : goal.returns-clause-book
returns-clause-book g c =
    let row = c.fill-row.ensures (λ i. g.K.Kind.ops.product c.args.constant (share_held c.args.self.now.secrets i c.args.a)) (λ i v k. search rules) in
    search rules
