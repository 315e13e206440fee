-- What sharing promises, of every kind of number: recombination, rebuilding and the mask. Assumes nothing.
use Rattle.std.specs.Prelude.{◌≡◌, ℕ, suc, ◌+◌, ◌-◌, ◌<◌, ◌≤◌, true, List, [], ◌∷◌, map, length, Ok, Err}
use Rattle.std.specs.Simd.Lanes.{zip2}
use Rattle.kinds.specs.Kind.{Ops, difference}
use Rattle.sharing.specs.Shares.{most_seats, seats_to, value_at, share_at, shares_at, weights_of, weighed}
use Rattle.sharing.specs.Rebuilding.{all_below, apart, holds, is_seat, least_threshold, most_threshold, rebuilt}
use Rattle.sharing.specs.Masks.{mask_of, shifted}
use Rattle.sharing.specs.declared.refusal.Refusal.TheVariants.{NoFit}

-- the values of a polynomial at some seats
abbrev pub values_at : Ops → List ℕ → List ℕ → List ℕ
values_at o f seats = map (λ i. value_at o f (o.point i)) seats

abbrev pub constant_of : List ℕ → ℕ
constant_of [] = 0
constant_of (c ∷ cs) = c

-- The weights of n seats give the constant of each polynomial of at most n coefficients.
abbrev pub Recombines : Ops → Type 0
Recombines o = (n : ℕ) (f : List ℕ) → n ≤ most_seats → length f ≤ n → constant_of f < o.size → weighed o (weights_of o n) (values_at o f (seats_to n)) ≡ constant_of f

-- Where 2k − 1 ≤ n, the weights of n seats, applied to the products of the values of two polynomials of at most k
-- coefficients, give the product of the constants.
abbrev pub Multiplies : Ops → Type 0
Multiplies o = (n k : ℕ) (f g : List ℕ) → n ≤ most_seats → k + k ≤ suc n → length f ≤ k → length g ≤ k
    → weighed o (weights_of o n) (zip2 o.product (values_at o f (seats_to n)) (values_at o g (seats_to n))) ≡ o.product (constant_of f) (constant_of g)

-- k or more true shares of a figure rebuild it, of any seats in any order, none twice.
abbrev pub Rebuilds : Ops → Type 0
Rebuilds o = (k figure : ℕ) (strip seats : List ℕ) → least_threshold ≤ k → k ≤ most_threshold → figure < o.size → length strip + 1 ≡ k
    → apart seats ≡ true → k ≤ length seats → length seats ≤ most_seats → rebuilt o k seats (shares_at o figure strip seats) ≡ Ok figure

-- A polynomial of degree below k that has these values at these seats: k codes below the size, the last of which may be 0.
pub record Fits (o : Ops) (k : ℕ) (seats values f : List ℕ) : Type 0 where
  pub coefficients : length f ≡ k
  pub below : all_below o.size f ≡ true
  pub through : values_at o f seats ≡ values

-- An answer is the constant of the one polynomial of degree below k that fits every pair.
abbrev pub AnswersTheOne : Ops → Type 0
AnswersTheOne o = (k c : ℕ) (seats shares : List ℕ) → rebuilt o k seats shares ≡ Ok c
    → (f : List ℕ) × Fits o k seats shares f × (constant_of f ≡ c) × ((g : List ℕ) → Fits o k seats shares g → g ≡ f)

-- The refusal that none fits says that there is none.
abbrev pub RefusesWhenNone : Ops → Type 0
RefusesWhenNone o = (k : ℕ) (seats shares : List ℕ) → rebuilt o k seats shares ≡ Err NoFit → (f : List ℕ) → Fits o k seats shares f → ⊥

-- Along the mask of fewer than k seats, a strip of k − 1 codes, the unit has share 0 at each of them.
abbrev pub Masks : Ops → Type 0
Masks o = (k : ℕ) (group : List ℕ) → length group < k → (s : ℕ) → is_seat s ≡ true → holds s group ≡ true → share_at o o.unit (mask_of o group (k - 1)) s ≡ 0

-- Fewer than k seats cannot tell two figures apart: for each strip of the one there is a strip of the other, moved by
-- the mask, along which each of those seats has the same share.
abbrev pub Hides : Ops → Type 0
Hides o = (k : ℕ) (group : List ℕ) → length group < k → (figure other : ℕ) (strip : List ℕ) → length strip ≡ k - 1
    → (there : List ℕ) × (there ≡ shifted o (difference o other figure) (mask_of o group (k - 1)) strip) × (length there ≡ k - 1) × (all_below o.size there ≡ true)
    × ((s : ℕ) → is_seat s ≡ true → holds s group ≡ true → share_at o other there s ≡ share_at o figure strip s)
