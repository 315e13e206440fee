-- Rebuilding a figure from shares: the constant of the one polynomial of degree below k that fits every pair of a seat
-- and a share. It is found by Newton's divided differences. Assumes nothing.
use Rattle.std.specs.Prelude.{ℕ, zero, suc, Bool, true, false, cond, not, ◌&&◌, ◌||◌, List, [], ◌∷◌, length, Some, None, Option, Result, ◌==◌, nat_le, nat_lt}
use Rattle.std.specs.Option.{option_map, ok_or}
use Rattle.kinds.specs.Kind.{Ops, difference}
use Rattle.sharing.specs.Causes.{refuse_if}
use Rattle.sharing.specs.Shares.{most_seats}
use Rattle.sharing.specs.declared.refusal.Refusal.{Refusal}
use Rattle.sharing.specs.declared.refusal.Refusal.TheVariants.{Limits, NotBelow, Lengths, Seats, NoFit}

-- the limits of the threshold k
abbrev pub least_threshold : ℕ
least_threshold = 2

abbrev pub most_threshold : ℕ
most_threshold = 5

-- Where a polynomial f has value y at seat s: the values at the other seats of (f − y) / (x − p_s), which has one
-- coefficient less.
abbrev pub divided : Ops → ℕ → ℕ → List ℕ → List ℕ → List ℕ
divided o s y [] values = []
divided o s y (t ∷ seats) [] = []
divided o s y (t ∷ seats) (z ∷ values) = o.product (difference o z y) (o.reciprocal t s) ∷ divided o s y seats values

abbrev pub all_below : ℕ → List ℕ → Bool
all_below size [] = true
all_below size (c ∷ cs) = nat_lt c size && all_below size cs

-- no code but 0
abbrev pub all_zero : List ℕ → Bool
all_zero codes = all_below 1 codes

-- The constant of the polynomial of k coefficients that has these values at these seats, where there is one:
-- f(0) = y − p_s × g(0), where f has value y at the first seat s and g = (f − y) / (x − p_s).
abbrev pub fitted : Ops → ℕ → List ℕ → List ℕ → Option ℕ
fitted o zero seats values = cond (all_zero values) (Some 0) None
fitted o (suc k) [] values = None
fitted o (suc k) (s ∷ seats) [] = None
fitted o (suc k) (s ∷ seats) (y ∷ values) =
    option_map (λ c. difference o y (o.product (o.point s) c)) (fitted o k seats (divided o s y seats values))

-- the seat is among these
abbrev pub holds : ℕ → List ℕ → Bool
holds s [] = false
holds s (t ∷ seats) = s == t || holds s seats

-- 1 to 9
abbrev pub is_seat : ℕ → Bool
is_seat s = not (s == 0) && nat_le s most_seats

-- each is a seat, and none is named twice
abbrev pub apart : List ℕ → Bool
apart [] = true
apart (s ∷ seats) = (is_seat s && not (holds s seats)) && apart seats

-- What rebuild answers; the first cause that holds decides.
abbrev pub rebuilt : Ops → ℕ → List ℕ → List ℕ → Result ℕ Refusal
rebuilt o k seats shares =
    refuse_if (nat_lt k least_threshold || nat_lt most_threshold k) Limits
    (refuse_if (not (length seats == length shares) || (nat_lt (length shares) k || nat_lt most_seats (length shares))) Lengths
    (refuse_if (not (apart seats)) Seats
    (refuse_if (not (all_below o.size shares)) NotBelow (ok_or (fitted o k seats shares) NoFit))))
