use Rattle.std.proofs.Common.{◌≡◌, Some, List, ℕ, ap, ◌∙◌, rules}
use Rattle.sharing.specs.Shares.{weights_of, weighed}
use Rattle.book.proofs.book.Book.open.Goals as goal

pub returns-clause-answer : goal.returns-clause-answer
returns-clause-answer g c =
    let o = g.K.Kind.ops in
    let s = c.in_ok-slate.slate.now in
    let is : c.self.inside.pages.slate ≡ Some s = search rules in
    let total : c.recombine.result ≡ weighed o (weights_of o s.n) c.open_line.new.list =
    c.recombine.ensures.answer ∙ ap (λ (ws : List ℕ). weighed o ws c.open_line.new.list) (c.as_slice.ensures.value ∙ c.weigh_once.ensures) in
    search rules
