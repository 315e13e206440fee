-- What a kind of number is: its operations and the laws that they keep.
-- The field's term is a finite commutative ring in which the gaps between the evaluation points have reciprocals.
-- Assumes nothing.
use Rattle.std.specs.Prelude.{◌≡◌, ℕ, ◌%◌, ◌<◌, ◌≤◌, ◌≢◌}

-- the last number that has a point: the points are those of 0 to 9
abbrev pub last_point : ℕ
last_point = 9

-- the largest size that a kind may have
abbrev pub largest_size : ℕ
largest_size = 2147483648

-- The operations of a kind, on codes. A code stands for a number of the kind.
pub record Ops : Type 0 where
  -- how many numbers there are: the codes below the size
  pub size : ℕ
  pub sum : ℕ → ℕ → ℕ
  pub negative : ℕ → ℕ
  pub product : ℕ → ℕ → ℕ
  pub unit : ℕ
  -- the evaluation point of a number: seat i holds a polynomial's value at point i
  pub point : ℕ → ℕ
  -- the reciprocal of the gap between the points of two numbers
  pub reciprocal : ℕ → ℕ → ℕ

-- a − b
abbrev pub difference : Ops → ℕ → ℕ → ℕ
difference o a b = o.sum a (o.negative b)

-- The laws of a kind. No law says that every code has a reciprocal.
pub record Lawful (o : Ops) : Type 0 where
  pub size_low : 2 ≤ o.size
  pub size_high : o.size ≤ largest_size
  -- each operation answers a code below the size
  pub sum_below : (a b : ℕ) → o.sum a b < o.size
  pub negative_below : (a : ℕ) → o.negative a < o.size
  pub product_below : (a b : ℕ) → o.product a b < o.size
  pub unit_below : o.unit < o.size
  pub point_below : (i : ℕ) → o.point i < o.size
  pub reciprocal_below : (i j : ℕ) → o.reciprocal i j < o.size
  -- each operation counts a code as its remainder by the size
  pub sum_counts : (a b : ℕ) → o.sum a b ≡ o.sum (a % o.size) (b % o.size)
  pub negative_counts : (a : ℕ) → o.negative a ≡ o.negative (a % o.size)
  pub product_counts : (a b : ℕ) → o.product a b ≡ o.product (a % o.size) (b % o.size)
  -- the laws of a commutative ring, for codes below the size
  pub sum_assoc : (a b c : ℕ) → a < o.size → b < o.size → c < o.size → o.sum (o.sum a b) c ≡ o.sum a (o.sum b c)
  pub sum_comm : (a b : ℕ) → a < o.size → b < o.size → o.sum a b ≡ o.sum b a
  pub sum_zero : (a : ℕ) → a < o.size → o.sum a 0 ≡ a
  pub sum_negative : (a : ℕ) → a < o.size → o.sum a (o.negative a) ≡ 0
  pub product_assoc : (a b c : ℕ) → a < o.size → b < o.size → c < o.size → o.product (o.product a b) c ≡ o.product a (o.product b c)
  pub product_comm : (a b : ℕ) → a < o.size → b < o.size → o.product a b ≡ o.product b a
  pub distributes : (a b c : ℕ) → a < o.size → b < o.size → c < o.size → o.product a (o.sum b c) ≡ o.sum (o.product a b) (o.product a c)
  pub unit_not_zero : o.unit ≢ 0
  pub unit_times : (a : ℕ) → a < o.size → o.product o.unit a ≡ a
  -- points and the reciprocals of their gaps
  pub point_zero : o.point 0 ≡ 0
  pub point_past : (i : ℕ) → last_point < i → o.point i ≡ 0
  pub reciprocal_same : (i : ℕ) → o.reciprocal i i ≡ 0
  pub reciprocal_past_left : (i j : ℕ) → last_point < i → o.reciprocal i j ≡ 0
  pub reciprocal_past_right : (i j : ℕ) → last_point < j → o.reciprocal i j ≡ 0
  pub gap : (i j : ℕ) → i ≤ last_point → j ≤ last_point → i ≢ j → o.product (difference o (o.point i) (o.point j)) (o.reciprocal i j) ≡ o.unit
