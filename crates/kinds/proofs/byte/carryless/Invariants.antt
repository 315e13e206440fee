-- So far the product of a by the lowest i bits of b.
-- Assumes nothing.
use Rattle.std.proofs.Common.{◌≡◌}
use Rattle.kinds.specs.Bytes.{multiplied}
use Rattle.kinds.proofs.byte.carryless.Given as goal

abbrev pub invariant-loop-i : goal.invariant-loop-i
invariant-loop-i l = l.r ≡ multiplied l.i l.a l.b
