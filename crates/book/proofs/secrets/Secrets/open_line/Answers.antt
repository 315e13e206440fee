use Rattle.std.proofs.Common.{ℕ, length, ◌∙◌, arith, rules}
use Rattle.book.specs.Secrets.{share_held}
use Rattle.book.proofs.Filling.{take-by_seat}
use Rattle.book.proofs.secrets.Secrets.open_line.Goals as goal

pub returns : goal.returns
returns c =
    let f : ℕ → ℕ = λ i. share_held c.args.self.now i c.args.r in
    c.copy_from_slice.ensures.after
    ∙ take-by_seat (length c.args.list.now) _ f _ (c.fill-shares.ensures f (λ i s k. search rules)) (omega arith) (omega arith)
