-- Interpolation by divided differences: whether values are those of a polynomial of k coefficients, and its value at zero.
-- Assumes nothing.
use Rattle.std.proofs.Common.{◌≡◌, ℕ, suc, ◌≤◌, List, [], ◌∷◌, map, length, sym, refl, ap, ◌∙◌, ap₂, arith}
use Rattle.sharing.proofs.Ring.{Ring, Points}
use Rattle.sharing.proofs.RingLaws.{ring, times_one}
use Rattle.sharing.proofs.Polynomials.{eval, quotient, length_quotient, divide, lift, length_lift, eval_lift, lift_quotient}
use Rattle.sharing.proofs.Lagrange.{NotIn, Apart}

module _ {C : Type 0} (R : Ring C) (P : Points R) where
  open R use {zero, one, plus as ◌⊕◌, neg, times as ◌⊗◌}
  open P use {last, point, recip}

  infixl 65 ◌⊕◌
  infixl 70 ◌⊗◌
  abbrev pub values : List C → List ℕ → List C
  values f S = map (λ i. eval R f (point i)) S

  abbrev pub divided : ℕ → C → List ℕ → List C → List C
  divided s y [] zs = []
  divided s y (t ∷ ts) [] = []
  divided s y (t ∷ ts) (z ∷ zs) = ((z ⊕ neg y) ⊗ recip t s) ∷ divided s y ts zs

  -- what is left after k rounds
  abbrev pub leftover : ℕ → List ℕ → List C → List C
  leftover ℕ.zero S ys = ys
  leftover (suc k) [] ys = []
  leftover (suc k) (s ∷ S) [] = []
  leftover (suc k) (s ∷ S) (y ∷ ys) = leftover k S (divided s y S ys)

  -- the value at zero after k rounds
  abbrev pub constant : ℕ → List ℕ → List C → C
  constant ℕ.zero S ys = zero
  constant (suc k) [] ys = zero
  constant (suc k) (s ∷ S) [] = zero
  constant (suc k) (s ∷ S) (y ∷ ys) = y ⊕ neg (point s ⊗ constant k S (divided s y S ys))

  abbrev pub Zeros : List C → Type 0
  Zeros [] = Unit {0}
  Zeros (c ∷ cs) = (c ≡ zero) × Zeros cs

  turn : (d w r : C) → d ⊗ r ≡ one → d ⊗ (w ⊗ r) ≡ w
  turn d w r e = regroup ∙ ap (λ v. w ⊗ v) e ∙ times_one R w
    where
      regroup : d ⊗ (w ⊗ r) ≡ w ⊗ (d ⊗ r)
      regroup = simp ring

  down_step : (y d q r : C) → d ⊗ r ≡ one → ((y ⊕ d ⊗ q) ⊕ neg y) ⊗ r ≡ q
  down_step y d q r e = regroup ∙ turn d q r e
    where
      regroup : ((y ⊕ d ⊗ q) ⊕ neg y) ⊗ r ≡ d ⊗ (q ⊗ r)
      regroup = simp ring

  -- the divided values of a polynomial are those of its quotient
  pub divided_values : (c : C) (g : List C) (s : ℕ) (S : List ℕ) → s ≤ last → NotIn s S → Apart R P S →
      divided s (eval R (c ∷ g) (point s)) S (values (c ∷ g) S) ≡ values (quotient R (point s) g) S
  divided_values c g s [] hs out apart = refl
  divided_values c g s (t ∷ S) hs out apart =
      let y : C = eval R (c ∷ g) (point s) in
      let here = ap (λ z. (z ⊕ neg y) ⊗ recip t s) (divide R c g (point s) (point t))
      ∙ down_step y (point t ⊕ neg (point s)) (eval R (quotient R (point s) g) (point t)) (recip t s) (P.gap t s apart.0 hs (λ e. out.0 (sym e))) in
      ap₂ ◌∷◌ here (divided_values c g s S hs out.1 apart.2)

  zero_step : (y p v : C) → y ⊕ (zero ⊕ neg p) ⊗ v ≡ y ⊕ neg (p ⊗ v)
  zero_step y p v = simp ring

  zeros_values : (S : List ℕ) → Zeros (values [] S)
  zeros_values [] = tt
  zeros_values (s ∷ S) = (refl, zeros_values S)

  -- k rounds on the values of a polynomial of k coefficients leave zeros, and find its value at zero
  pub complete : (k : ℕ) (S : List ℕ) (f : List C) → Apart R P S → length f ≡ k → k ≤ length S →
      Zeros (leftover k S (values f S)) × (constant k S (values f S) ≡ eval R f zero)
  complete ℕ.zero S [] apart e h = (zeros_values S, refl)
  complete ℕ.zero S (c ∷ g) apart e h = absurd (omega arith)
  complete (suc k) S [] apart e h = absurd (omega arith)
  complete (suc k) [] (c ∷ g) apart e h = absurd (omega arith)
  complete (suc k) (s ∷ S) (c ∷ g) apart e h =
      let y : C = eval R (c ∷ g) (point s) in
      let Q : List C = quotient R (point s) g in
      let same = divided_values c g s S apart.0 apart.1 apart.2 in
      let below = complete k S Q apart.2 (simp length_quotient (omega arith)) (omega arith) in (
        rw same below.0,
        ap (λ v. y ⊕ neg (point s ⊗ v)) (ap (constant k S) same ∙ below.1)
            ∙ sym (divide R c g (point s) zero ∙ zero_step y (point s) (eval R Q zero)),
      )

  length_divided : (s : ℕ) (y : C) (S : List ℕ) (ys : List C) → length ys ≡ length S → length (divided s y S ys) ≡ length S
  length_divided s y [] ys e = refl
  length_divided s y (t ∷ S) [] e = absurd (omega arith)
  length_divided s y (t ∷ S) (z ∷ zs) e = ap suc (length_divided s y S zs (omega arith))

  zeros_only : (S : List ℕ) (ys : List C) → length ys ≡ length S → Zeros ys → values [] S ≡ ys
  zeros_only [] [] e z = refl
  zeros_only [] (y ∷ ys) e z = absurd (omega arith)
  zeros_only (s ∷ S) [] e z = absurd (omega arith)
  zeros_only (s ∷ S) (y ∷ ys) e z = ap₂ ◌∷◌ (sym z.0) (zeros_only S ys (omega arith) z.1)

  back_step : (y z : C) → y ⊕ (z ⊕ neg y) ≡ z
  back_step y z = simp ring

  lift_values : (s : ℕ) (y : C) (S : List ℕ) (ys q : List C) → s ≤ last → NotIn s S → Apart R P S → length ys ≡ length S →
      values q S ≡ divided s y S ys → values (lift R (point s) y q) S ≡ ys
  lift_values s y [] [] q hs out apart e same = refl
  lift_values s y [] (z ∷ zs) q hs out apart e same = absurd (omega arith)
  lift_values s y (t ∷ S) [] q hs out apart e same = absurd (omega arith)
  lift_values s y (t ∷ S) (z ∷ zs) q hs out apart e same =
      let d : C = point t ⊕ neg (point s) in
      let head : eval R q (point t) ≡ (z ⊕ neg y) ⊗ recip t s = cc in
      let tail : values q S ≡ divided s y S zs = cc in
      let here = eval_lift R (point s) y q (point t)
      ∙ ap (λ v. y ⊕ v) (ap (λ v. d ⊗ v) head ∙ turn d (z ⊕ neg y) (recip t s) (P.gap t s apart.0 hs (λ e. out.0 (sym e))))
      ∙ back_step y z in
      ap₂ ◌∷◌ here (lift_values s y S zs q hs out.1 apart.2 (omega arith) tail)

  same_step : (y p v : C) → y ⊕ (p ⊕ neg p) ⊗ v ≡ y
  same_step y p v = simp ring

  -- where k rounds leave zeros, the values are those of a polynomial of k coefficients
  pub sound : (k : ℕ) (S : List ℕ) (ys : List C) → Apart R P S → length ys ≡ length S → k ≤ length S → Zeros (leftover k S ys) →
      (f : List C) × (length f ≡ k) × (values f S ≡ ys) × (eval R f zero ≡ constant k S ys)
  sound ℕ.zero S ys apart e h z = ([], refl, zeros_only S ys e z, refl)
  sound (suc k) [] ys apart e h z = absurd (omega arith)
  sound (suc k) (s ∷ S) [] apart e h z = absurd (omega arith)
  sound (suc k) (s ∷ S) (y ∷ ys) apart e h z =
      let (q, long, same, first) = sound k S (divided s y S ys) apart.2 (length_divided s y S ys (omega arith)) (omega arith) z in (
        lift R (point s) y q,
        length_lift R (point s) y q ∙ ap suc long,
        ap₂ ◌∷◌ (eval_lift R (point s) y q (point s) ∙ same_step y (point s) (eval R q (point s)))
            (lift_values s y S ys q apart.0 apart.1 apart.2 (omega arith) same),
        eval_lift R (point s) y q zero ∙ zero_step y (point s) (eval R q zero) ∙ ap (λ v. y ⊕ neg (point s ⊗ v)) first,
      )

  -- no more coefficients than seats: the values tell the polynomial
  pub unique : (S : List ℕ) (f g : List C) → Apart R P S → length f ≡ length g → length f ≤ length S → values f S ≡ values g S → f ≡ g
  unique S [] [] apart e h same = refl
  unique S [] (d ∷ g) apart e h same = absurd (omega arith)
  unique S (c ∷ f) [] apart e h same = absurd (omega arith)
  unique [] (c ∷ f) (d ∷ g) apart e h same = absurd (omega arith)
  unique (s ∷ S) (c ∷ f) (d ∷ g) apart e h same =
      let p : C = point s in
      let head : eval R (c ∷ f) p ≡ eval R (d ∷ g) p = cc in
      let tail : values (c ∷ f) S ≡ values (d ∷ g) S = cc in
      let Q = sym (divided_values c f s S apart.0 apart.1 apart.2)
      ∙ ap₂ (λ y ys. divided s y S ys) head tail
      ∙ divided_values d g s S apart.0 apart.1 apart.2 in
      sym (lift_quotient R c f p)
      ∙ ap₂ (lift R p) head (unique S (quotient R p f) (quotient R p g) apart.2 (simp length_quotient (omega arith)) (simp length_quotient (omega arith)) Q)
      ∙ lift_quotient R d g p
