-- The mask of a group of seats: what hides a figure from fewer than k of them. Assumes nothing.
use Rattle.std.specs.Prelude.{ℕ, List, [], ◌∷◌, replicate}
use Rattle.std.specs.Simd.Lanes.{zip2}
use Rattle.kinds.specs.Kind.{Ops, difference}

-- The coefficients, after the constant, of a polynomial times 1 − r × x, cut to their number: each takes off r times
-- the coefficient before it.
abbrev pub grown : Ops → ℕ → ℕ → List ℕ → List ℕ
grown o r before [] = []
grown o r before (c ∷ cs) = difference o c (o.product r before) ∷ grown o r c cs

-- The coefficients, after the constant 1, of a polynomial 1 + c_1 × x + .. times 1 − x / p_s for each seat s of the
-- group, cut to their number.
abbrev pub masked : Ops → List ℕ → List ℕ → List ℕ
masked o [] strip = strip
masked o (s ∷ group) strip = masked o group (grown o (o.reciprocal s 0) o.unit strip)

-- The mask of a group, of m codes: the strip along which the unit has share 0 at each seat of the group, if the group
-- has at most m.
abbrev pub mask_of : Ops → List ℕ → ℕ → List ℕ
mask_of o group m = masked o group (replicate m 0)

-- a strip moved by a multiple of another
abbrev pub shifted : Ops → ℕ → List ℕ → List ℕ → List ℕ
shifted o by mask strip = zip2 (λ c d. o.sum c (o.product by d)) strip mask
