use Rattle.std.proofs.Common.{◌≡◌, ℕ, ◌+◌, ◌<◌, get_or}
use Rattle.sharing.specs.Shares.{weight_among, seats_to}
use Rattle.sharing.proofs.shares.weigh.Given as goal

-- the weights of the first i seats are written
abbrev pub invariant-loop-i : goal.invariant-loop-i
invariant-loop-i g l = (k : ℕ) → k < l.i → get_or l.list k 0 ≡ weight_among g.K.Kind.ops (seats_to l.n) (k + 1)
