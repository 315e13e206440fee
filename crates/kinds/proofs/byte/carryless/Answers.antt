-- A turn adds a · x^i where b has the coefficient of x^i; nothing is shifted out of 32 bits.
-- Assumes nothing.
use Rattle.std.proofs.Common.{◌≡◌, ℕ, ◌+◌, ◌*◌, ◌/◌, ◌%◌, ◌^◌, ◌<◌, sym, ap, ◌∙◌, ap₂, add-one, arith}
use lib.Bits.{bit_xor, bit_and, and_mask}
use Rattle.std.proofs.lemmas.Nat.{shl_whole}
use Rattle.kinds.specs.Bytes.{multiplied}
use Rattle.kinds.proofs.byte.carryless.Goals as goal

step : (a b i r : ℕ) → a < 256 → i < 8 → r ≡ multiplied i a b
    → bit_xor r (bit_and (b / 2 ^ i) 1 * (a * 2 ^ i % 2 ^ 32)) ≡ multiplied (i + 1) a b
unfolding multiplied
step a b i r ha hi e =
    ap₂ bit_xor e (ap₂ ◌*◌ (and_mask (b / 2 ^ i) 1) (shl_whole a 8 i 32 ha (omega arith)))
    ∙ sym (ap (λ (n : ℕ). multiplied n a b) (add-one i))

pub loop-i-preserved : goal.loop-i-preserved
loop-i-preserved c = step c.args.a c.args.b c.loop-i.i c.loop-i.r (omega arith) (omega arith) c.loop-i.invariant
