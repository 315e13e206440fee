use Rattle.std.proofs.Common.{◌≤◌, ℕ, map, refl, ap, ap₂, ◌∙◌, rules}
use Rattle.sharing.specs.Shares.{most_seats, seats_to, weighed}
use Rattle.book.specs.Secrets.{letter_held}
use Rattle.book.proofs.Filling.{take-by_seat}
use Rattle.book.proofs.secrets.Secrets.gathered_share.Goals as goal

pub returns : goal.returns
returns g c =
    let f : ℕ → ℕ = letter_held c.args.self.now c.args.seat in
    let n = c.len-n.result in
    let few : n ≤ most_seats = c.len-n.ensures.fits in
    c.recombine.ensures.answer
    ∙ ap₂ (weighed g.K.Kind.ops) c.as_slice.ensures.value
    (take-by_seat n n f _ (c.fill-letters.ensures f (λ i s k. search rules)) refl few ∙ ap (λ (m : ℕ). map f (seats_to m)) c.len-n.ensures.value)
