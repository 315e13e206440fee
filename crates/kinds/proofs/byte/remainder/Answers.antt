-- A turn takes off the coefficient of x^(8 + i), as one clause of the remainder does.
-- Assumes nothing.
use Rattle.std.proofs.Common.{◌≡◌, ℕ, suc, ◌+◌, ◌-◌, ◌*◌, ◌/◌, ◌%◌, ◌^◌, ◌<◌, sym, ap, ◌∙◌, ap₂, arith, lit<}
use lib.Bits.{bit_xor, bit_and, and_mask}
use Rattle.std.proofs.lemmas.Nat.{shl_whole}
use Rattle.kinds.specs.Bytes.{modulus, reduced}
use Rattle.kinds.proofs.byte.remainder.Goals as goal

step : (i j r : ℕ) → i ≡ suc j → j < 7
    → reduced j (bit_xor r (bit_and (r / 2 ^ (8 + j)) 1 * (modulus * 2 ^ j % 2 ^ 32))) ≡ reduced i r
unfolding reduced
step i j r e h =
    ap (λ (x : ℕ). reduced j (bit_xor r x)) (ap₂ ◌*◌ (and_mask (r / 2 ^ (8 + j)) 1) (shl_whole modulus 9 j 32 (lit< tt) (omega arith)))
    ∙ sym (ap (λ (n : ℕ). reduced n r) e)

pub loop-i-preserved : goal.loop-i-preserved
loop-i-preserved c = step c.loop-i.i (c.loop-i.i - 1) c.loop-i.r (omega arith) (omega arith) ∙ c.loop-i.invariant
