use Rattle.std.proofs.Common.{◌∙◌, arith}
use Rattle.reading.proofs.Fronts.{dec_big}
use Rattle.reading.proofs.digits.decimal_value.Goals as goal

pub returns-in_err-checked_mul : goal.returns-in_err-checked_mul
returns-in_err-checked_mul c =
    c.from_residual-in_err-checked_mul.ensures
    ∙ dec_big c.args.digits.now c.loop-b.b-index c.loop-b.value c.loop-b.invariant.whole (omega arith) (omega (arith, c.in_err-checked_mul.ensures))

pub returns-in_err-value : goal.returns-in_err-value
returns-in_err-value c =
    c.from_residual-in_err-value.ensures
    ∙ dec_big c.args.digits.now c.loop-b.b-index c.loop-b.value c.loop-b.invariant.whole (omega arith) (grind arith)
