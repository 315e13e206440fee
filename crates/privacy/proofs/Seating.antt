-- Of the numbers 1 to m, none named twice, there are at most m: so seats that are apart are at most as many as there are.
-- Assumes nothing.
use Rattle.std.proofs.Common.{◌≡◌, ℕ, zero, suc, ◌≤◌, true, not, ◌&&◌, List, [], ◌∷◌, length, subst, ⊎_elim, arith}
use Rattle.std.proofs.lemmas.Bool.{and_parts, not-true, cases_eq}
use Rattle.sharing.specs.Rebuilding.{apart, holds, is_seat}
use Rattle.sharing.proofs.Lagrange.{NotIn}
use Rattle.sharing.proofs.Seats.{holds_none}
use Rattle.privacy.specs.Totals.{SeatsOf}

-- none is named twice
abbrev Separate : List ℕ → Type 0
Separate [] = Unit {0}
Separate (s ∷ seats) = NotIn s seats × Separate seats

apart_separate : (seats : List ℕ) → apart seats ≡ true → Separate seats
apart_separate [] h = tt
apart_separate (s ∷ seats) h =
    let (here, rest) = and_parts (is_seat s && not (holds s seats)) (apart seats) h in
    let (_, new) = and_parts (is_seat s) (not (holds s seats)) here in
    (holds_none s seats (not-true _ new), apart_separate seats rest)

-- without the last number the limit is one lower
lower : (m : ℕ) (seats : List ℕ) → NotIn (suc m) seats → SeatsOf (suc m) seats → SeatsOf m seats
lower m [] new of_m = tt
lower m (s ∷ seats) new of_m = (of_m.0, omega arith, lower m seats new.1 of_m.2)

-- at most one of them is the last number: the others keep within the lower limit
thinner : (m : ℕ) (seats : List ℕ) → SeatsOf (suc m) seats → Separate seats
    → (fewer : List ℕ) × SeatsOf m fewer × Separate fewer × ((s : ℕ) → NotIn s seats → NotIn s fewer) × (length seats ≤ suc (length fewer))
thinner m [] of_m sep = ([], tt, tt, λ s h. h, omega arith)
thinner m (s ∷ seats) of_m sep =
    ⊎_elim
    (λ e. (seats, lower m seats (subst (λ r. NotIn r seats) e sep.0) of_m.2, sep.1, λ r h. h.1, omega arith))
    (λ ne.
    let (fewer, within, apart_still, new, long) = thinner m seats of_m.2 sep.1 in
    (s ∷ fewer, (of_m.0, omega arith, within), (new s sep.0, apart_still), λ r h. (h.0, new r h.1), omega arith))
    (cases_eq s (suc m))

at_most : (m : ℕ) (seats : List ℕ) → SeatsOf m seats → Separate seats → length seats ≤ m
at_most m [] of_m sep = omega arith
at_most zero (s ∷ seats) of_m sep = absurd (omega arith)
at_most (suc m) (s ∷ seats) of_m sep =
    let (fewer, within, apart_still, _, long) = thinner m (s ∷ seats) of_m sep in
    omega (arith, at_most m fewer within apart_still)

-- seats that are apart are at most as many as there are
pub seats_at_most : (n : ℕ) (seats : List ℕ) → SeatsOf n seats → apart seats ≡ true → length seats ≤ n
seats_at_most n seats of_n h = at_most n seats of_n (apart_separate seats h)
