use Rattle.std.proofs.Common.{length}
use Rattle.forms.specs.Lists.{numbers_in}
use Rattle.forms.proofs.Taking.{Leaves}
use Rattle.forms.proofs.numbers.taking.spaced.Given as goal

abbrev pub invariant-loop-digits : goal.invariant-loop-digits
invariant-loop-digits l = Leaves l.bytes (numbers_in l.numbers) (length l.yielded)
