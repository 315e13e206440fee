use Rattle.std.proofs.Common.{◌≡◌, Some, ◌∙◌, rules}
use Rattle.book.specs.Secrets.{letter_held, gathered_share}
use Rattle.book.proofs.Weighing.{weighed_alike}
use Rattle.book.proofs.book.Book.gather.Goals as goal

pub returns-clause-book : goal.returns-clause-book
returns-clause-book g c =
    let o = g.K.Kind.ops in
    let s = c.in_ok-slate.slate.now in
    let x = c.self.inside.pages.secrets in
    let seat = c.args.seat in
    let is : c.self.inside.pages.slate ≡ Some s = search rules in
    let share : c.gathered_share-share.result ≡ gathered_share o s.n x seat =
    c.gathered_share-share.ensures ∙ weighed_alike o (letter_held x seat) _ s.n (search rules) in
    search rules
