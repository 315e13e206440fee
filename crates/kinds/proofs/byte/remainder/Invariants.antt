-- What is left to do, i coefficients, leads from r to the remainder of a.
-- Assumes nothing.
use Rattle.std.proofs.Common.{◌≡◌}
use Rattle.kinds.specs.Bytes.{reduced}
use Rattle.kinds.proofs.byte.remainder.Given as goal

abbrev pub invariant-loop-i : goal.invariant-loop-i
invariant-loop-i l = reduced l.i l.r ≡ reduced 7 l.a
