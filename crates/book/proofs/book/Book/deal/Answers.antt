use Rattle.std.proofs.Common.{rules}
use Rattle.sharing.specs.Shares.{share_at}
use Rattle.book.specs.Secrets.{dealt_product}
use Rattle.book.proofs.book.Book.deal.Goals as goal

pub returns-clause-book : goal.returns-clause-book
returns-clause-book g c =
    let o = g.K.Kind.ops in
    let product = dealt_product o c.args.self.now.secrets c.in_ok-hand.hand c.args.seat in
    let row = c.fill-letters.ensures (share_at o product c.args.strip.now) (λ i v k. search rules) in
    search rules
