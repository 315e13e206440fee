-- An abstract commutative ring, and evaluation points whose gaps have reciprocals.
-- Assumes nothing.
use Rattle.std.proofs.Common.{◌≡◌, ℕ, ◌≤◌, ◌≢◌}

pub record Ring (C : Type 0) : Type 0 where
  pub zero : C
  pub one : C
  pub plus : C → C → C
  pub neg : C → C
  pub times : C → C → C
  pub plus_assoc : (a b c : C) → plus (plus a b) c ≡ plus a (plus b c)
  pub plus_comm : (a b : C) → plus a b ≡ plus b a
  pub plus_zero : (a : C) → plus a zero ≡ a
  pub plus_neg : (a : C) → plus a (neg a) ≡ zero
  pub times_assoc : (a b c : C) → times (times a b) c ≡ times a (times b c)
  pub times_comm : (a b : C) → times a b ≡ times b a
  pub times_plus : (a b c : C) → times a (plus b c) ≡ plus (times a b) (times a c)
  pub one_times : (a : C) → times one a ≡ a

-- The points of 0 to `last`, of which that of 0 is zero, and the reciprocals of the gaps between them.
pub record Points {C : Type 0} (R : Ring C) : Type 0 where
  pub last : ℕ
  pub point : ℕ → C
  pub recip : ℕ → ℕ → C
  pub point_zero : point 0 ≡ R.zero
  pub gap : (i j : ℕ) → i ≤ last → j ≤ last → i ≢ j → R.times (R.plus (point i) (R.neg (point j))) (recip i j) ≡ R.one
