-- What rebuilding lets through: an outcome other than a refusal of a test says that every test passed.
-- Assumes nothing.
use Rattle.std.proofs.Common.{◌≡◌, ℕ, ◌≤◌, Bool, true, false, not, ◌||◌, eqb, ltb, ◌≢◌, List, length, Some, None, Ok, Err, Option, Result, sym, refl, arith}
use Rattle.std.specs.Option.{ok_or}
use Rattle.std.proofs.lemmas.Bool.{or_parts, or_from, not-false, not_from_true, ltb-false, le-ltb, eqb-true, eq-eqb}
use Rattle.kinds.specs.Kind.{Ops}
use Rattle.sharing.specs.Causes.{refuse_if}
use Rattle.sharing.specs.Shares.{most_seats}
use Rattle.sharing.specs.Rebuilding.{least_threshold, most_threshold, all_below, apart, fitted, rebuilt}
use Rattle.sharing.specs.declared.refusal.Refusal.{Refusal}
use Rattle.sharing.specs.declared.refusal.Refusal.TheVariants.{Limits, NotBelow, Lengths, Seats, NoFit}

-- every test of rebuilding passes
pub record Admitted (o : Ops) (k : ℕ) (seats shares : List ℕ) : Type 0 where
  pub low : least_threshold ≤ k
  pub high : k ≤ most_threshold
  pub paired : length shares ≡ length seats
  pub enough : k ≤ length seats
  pub most : length seats ≤ most_seats
  pub separate : apart seats ≡ true
  pub below : all_below o.size shares ≡ true

-- an outcome that is not this refusal comes from the later causes
passed : {A : Type 0} (b : Bool) (why : Refusal) (rest r : Result A Refusal) → r ≢ Err why → refuse_if b why rest ≡ r → (b ≡ false) × (rest ≡ r)
passed true why rest r other e = absurd (other (sym e))
passed false why rest r other e = (refl, e)

passes : {A : Type 0} (b : Bool) (why : Refusal) (rest r : Result A Refusal) → b ≡ false → rest ≡ r → refuse_if b why rest ≡ r
passes b why rest r no_cause e = rw no_cause e

ok_some : (x : Option ℕ) (c : ℕ) → ok_or x NoFit ≡ Ok c → x ≡ Some c
ok_some None c e = cc
ok_some (Some b) c e = cc

err_none : (x : Option ℕ) → ok_or x NoFit ≡ Err NoFit → x ≡ None
err_none None e = refl
err_none (Some b) e = cc

differ : ◌≡◌ {A = ℕ} 0 1 → ⊥
differ z = omega arith

module _ (o : Ops) (k : ℕ) (seats shares : List ℕ) where
  -- an outcome that is no test's refusal is that of the fit
  admitted : (r : Result ℕ Refusal) → ((why : Refusal) → r ≡ Err why → why ≡ NoFit) → rebuilt o k seats shares ≡ r →
      Admitted o k seats shares × (ok_or (fitted o k seats shares) NoFit ≡ r)
  admitted r only e =
      let (limits, e1) = passed (ltb k least_threshold || ltb most_threshold k) Limits _ r (λ h. let n = only Limits h in differ (cc)) e in
      let (lengths, e2) =
      passed (not (eqb (length seats) (length shares)) || (ltb (length shares) k || ltb most_seats (length shares))) Lengths _ r
      (λ h. let n = only Lengths h in differ (cc)) e1 in
      let (separate, e3) = passed (not (apart seats)) Seats _ r (λ h. let n = only Seats h in differ (cc)) e2 in
      let (small, e4) = passed (not (all_below o.size shares)) NotBelow _ r (λ h. let n = only NotBelow h in differ (cc)) e3 in
      let (low, high) = or_parts (ltb k least_threshold) (ltb most_threshold k) limits in
      let (paired, room) = or_parts (not (eqb (length seats) (length shares))) (ltb (length shares) k || ltb most_seats (length shares)) lengths in
      let (enough, most) = or_parts (ltb (length shares) k) (ltb most_seats (length shares)) room in
      let same : length seats ≡ length shares = eqb-true (length seats) (length shares) (not-false _ paired) in (
        record {
          low = ltb-false k least_threshold low;
          high = ltb-false most_threshold k high;
          paired = sym same;
          enough = omega (arith, ltb-false (length shares) k enough);
          most = omega (arith, ltb-false most_seats (length shares) most);
          separate = not-false (apart seats) separate;
          below = not-false (all_below o.size shares) small;
        },
        e4,
      )

  -- an answer is that of the fit
  pub admitted_ok : (c : ℕ) → rebuilt o k seats shares ≡ Ok c → Admitted o k seats shares × (fitted o k seats shares ≡ Some c)
  admitted_ok c e =
      let (a, ok) = admitted (Ok c) (λ why h. cc) e in
      (a, ok_some (fitted o k seats shares) c ok)

  -- the refusal that none fits is that of the fit
  pub admitted_none : rebuilt o k seats shares ≡ Err NoFit → Admitted o k seats shares × (fitted o k seats shares ≡ None)
  admitted_none e =
      let (a, none) = admitted (Err NoFit) (λ why h. cc) e in
      (a, err_none (fitted o k seats shares) none)

  -- where every test passes, the fit decides
  pub rebuilt_is : Admitted o k seats shares → rebuilt o k seats shares ≡ ok_or (fitted o k seats shares) NoFit
  rebuilt_is a =
      passes _ Limits _ _ (or_from _ _ (le-ltb k least_threshold a.low) (le-ltb most_threshold k a.high))
      (passes _ Lengths _ _
      (or_from _ _ (not_from_true _ (eq-eqb (length seats) (length shares) (sym a.paired)))
      (or_from _ _ (le-ltb (length shares) k (omega arith)) (le-ltb most_seats (length shares) (omega arith))))
      (passes _ Seats _ _ (not_from_true _ a.separate) (passes _ NotBelow _ _ (not_from_true _ a.below) refl)))
