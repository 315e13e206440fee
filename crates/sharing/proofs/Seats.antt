-- Seats that the tests let through have points, and stand apart as the ring's lemmas want them.
-- Assumes nothing.
use Rattle.std.proofs.Common.{◌≡◌, ℕ, suc, ◌+◌, ◌<◌, ◌≤◌, true, false, not, ◌&&◌, eqb, ◌≢◌, List, [], ◌∷◌, ⊎_elim, arith}
use mathlib.Core.List.{Memᴰ}
use Rattle.std.specs.List.{range_with_len}
use Rattle.std.proofs.lemmas.Bool.{and_parts, or_cases, or_parts, not-true, eqb-true, eqb-false, leb-true, false≢true}
use Rattle.kinds.specs.Kind.{Ops, Lawful, last_point}
use Rattle.sharing.specs.Shares.{most_seats, seats_to}
use Rattle.sharing.specs.Rebuilding.{is_seat, holds, apart}
use Rattle.sharing.proofs.Lagrange.{NotIn, Apart}
use Rattle.sharing.proofs.Codes.{codes, places, last_is}

-- a seat is one of 1 to 9
pub seat_range : (s : ℕ) → is_seat s ≡ true → (1 ≤ s) × (s ≤ most_seats)
seat_range s h =
    let (some, small) = and_parts _ _ h in
    let far : s ≢ 0 = eqb-false s 0 (not-true _ some) in
    (omega arith, leb-true s most_seats small)

-- the test for a seat among others tells where it stands
pub holds_member : (s : ℕ) (seats : List ℕ) → holds s seats ≡ true → Memᴰ s seats
holds_member s [] h = absurd (false≢true h)
holds_member s (t ∷ seats) h =
    ⊎_elim (λ (e : eqb s t ≡ true). Memᴰ.head (eqb-true s t e)) (λ e. Memᴰ.tail (holds_member s seats e)) (or_cases (eqb s t) (holds s seats) h)

pub holds_none : (s : ℕ) (seats : List ℕ) → holds s seats ≡ false → NotIn s seats
holds_none s [] h = tt
holds_none s (t ∷ seats) h = let (here, rest) = or_parts (eqb s t) (holds s seats) h in (eqb-false s t here, holds_none s seats rest)

before_counting : (s a n : ℕ) → s < a → NotIn s (range_with_len a n)
before_counting s a ℕ.zero h = tt
before_counting s a (suc n) h = (omega arith, before_counting s (a + 1) n (omega arith))

module _ (o : Ops) (L : Lawful o) where
  -- seats that are apart by the test
  pub apart_seats : (seats : List ℕ) → apart seats ≡ true → Apart (codes o L) (places o L) seats
  apart_seats [] h = tt
  apart_seats (s ∷ seats) h =
      let (first, rest) = and_parts (is_seat s && not (holds s seats)) (apart seats) h in
      let (seat, new) = and_parts (is_seat s) (not (holds s seats)) first in
      (omega (arith, seat_range s seat, last_is o L), holds_none s seats (not-true _ new), apart_seats seats rest)

  counting_apart : (a n : ℕ) → a + n ≤ suc last_point → Apart (codes o L) (places o L) (range_with_len a n)
  counting_apart a ℕ.zero h = tt
  counting_apart a (suc n) h =
      (omega (arith, last_is o L), before_counting a (a + 1) n (omega arith), counting_apart (a + 1) n (omega arith))

  -- seats 1 to n
  pub apart_to : (n : ℕ) → n ≤ most_seats → Apart (codes o L) (places o L) (seats_to n)
  apart_to n h = counting_apart 1 n (omega arith)
