use Rattle.std.proofs.Common.{◌≡◌, length, subst, rules}
use Rattle.book.specs.Books.{list_after}
use Rattle.book.specs.Calls.{show}
use Rattle.book.specs.Secrets.{shown}
use Rattle.book.specs.declared.pages.Pages.{Pages}
use Rattle.book.proofs.book.Book.show.Goals as goal

pub returns-clause-written : goal.returns-clause-written
returns-clause-written g c =
    let seat = c.args.seat in
    let list = c.args.list.now in
    subst (λ (p : Pages). c.show.new.list ≡ list_after g.K.Kind.ops.size p (show seat (length list)) (λ s. shown s p.secrets seat) list)
    c.self.view_is (search rules)
