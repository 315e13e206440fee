-- What the limits of n and k leave, and how many seats there are at most. Assumes nothing.
use Rattle.std.proofs.Common.{◌≡◌, ℕ, ◌+◌, ◌*◌, Bool, true, false, ◌||◌, ltb, None, Option, refl, arith}
use Rattle.std.proofs.lemmas.Bool.{or_parts, ltb-false}
use Rattle.sharing.specs.Rebuilding.{least_threshold, most_threshold}
use Rattle.sharing.specs.Shares.{most_seats}
use Rattle.sharing.specs.declared.refusal.Refusal.{Refusal}
use Rattle.sharing.specs.declared.refusal.Refusal.TheVariants.{Limits}
use Rattle.book.specs.Slates.{cause, why_set}
use Rattle.privacy.proofs.Linked.{Within}

-- where no cause refuses, the first does not hold, and neither do the rest
pub no_cause : (b : Bool) (r : Refusal) (rest : Option Refusal) → cause b r rest ≡ None → (b ≡ false) × (rest ≡ None)
no_cause true r rest e = (cc, cc)
no_cause false r rest e = (refl, e)

-- the limits that set keeps
pub within : (n k : ℕ) → why_set n k ≡ None → Within n k
within n k e =
    let (limits, _) = no_cause ((ltb k least_threshold || ltb most_threshold k) || (ltb (n + 1) (2 * k) || ltb most_seats n)) Limits None e in
    let (of_k, of_n) = or_parts (ltb k least_threshold || ltb most_threshold k) (ltb (n + 1) (2 * k) || ltb most_seats n) limits in
    let (low, high) = or_parts (ltb k least_threshold) (ltb most_threshold k) of_k in
    let (enough, most) = or_parts (ltb (n + 1) (2 * k)) (ltb most_seats n) of_n in
    record {
      k_low = ltb-false k least_threshold low;
      k_high = ltb-false most_threshold k high;
      n_low = omega (arith, ltb-false (n + 1) (2 * k) enough);
      n_high = ltb-false most_seats n most;
    }
