-- What the weights of n seats make of codes by seat, wherever the weights stand. Assumes nothing.
use Rattle.std.proofs.Common.{◌≡◌, ℕ, List, map, length, ap, ap₂, ◌∙◌}
use Rattle.std.proofs.lemmas.List.FromFn.{length-map-range_with_len}
use Rattle.kinds.specs.Kind.{Ops}
use Rattle.sharing.specs.Shares.{seats_to, weight_among, weights_of, weighed}

pub weighed_alike : (o : Ops) (code : ℕ → ℕ) (weights : List ℕ) (n : ℕ) → weights ≡ weights_of o n
    → weighed o weights (map code (seats_to (length weights))) ≡ weighed o (weights_of o n) (map code (seats_to n))
weighed_alike o code weights n kept =
    ap₂ (λ (ws : List ℕ) (m : ℕ). weighed o ws (map code (seats_to m))) kept (ap length kept ∙ length-map-range_with_len (weight_among o (seats_to n)) 1 n)
