-- A test at each of some numbers, which antt computes, and the fact that it gives at each. Assumes nothing.
use Rattle.std.specs.Prelude.{◌≡◌, ℕ, zero, suc, ◌<◌, Bool, true, ◌&&◌}
use Rattle.std.proofs.Common.{subst, inl, inr, arith}
use Rattle.std.proofs.lemmas.Bool.{and_parts, cases_lt}

-- a test at each number below n
unfoldable pub each : ℕ → (ℕ → Bool) → Bool
each zero p = true
each (suc n) p = p n && each n p

pub each_at : (n : ℕ) (p : ℕ → Bool) → each n p ≡ true → (i : ℕ) → i < n → p i ≡ true
unfolding each
each_at zero p t i h = absurd (omega arith)
each_at (suc n) p t i h =
    elim (cases_lt i n) [
      | inl l ↦ each_at n p (and_parts (p n) (each n p) t).1 i l
      | inr l ↦ let e : n ≡ i = omega arith in subst (λ (x : ℕ). p x ≡ true) e (and_parts (p n) (each n p) t).0
    ]
