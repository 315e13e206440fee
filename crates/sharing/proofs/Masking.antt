-- A polynomial with constant coefficient one that is zero at the points of given seats.
-- Assumes nothing.
use Rattle.std.proofs.Common.{◌≡◌, ℕ, suc, ◌≤◌, List, [], ◌∷◌, ◌++◌, length, replicate, sym, refl, ap, ◌∙◌, ap₂, arith}
use mathlib.Core.List.{Memᴰ}
use Rattle.sharing.proofs.Ring.{Ring, Points}
use Rattle.sharing.proofs.RingLaws.{ring, units, zero_times, times_zero, times_assoc}
use Rattle.sharing.proofs.Polynomials.{eval, eval_zeros}

module _ {C : Type 0} (R : Ring C) (P : Points R) where
  open R use {zero, one, plus as ◌⊕◌, neg, times as ◌⊗◌}
  open P use {last, point, recip}

  infixl 65 ◌⊕◌
  infixl 70 ◌⊗◌
  -- (prev ∷ xs) times 1 − r·x without its first coefficient, cut to the length of xs
  abbrev pub grow : C → C → List C → List C
  grow r prev [] = []
  grow r prev (x ∷ xs) = (x ⊕ neg (r ⊗ prev)) ∷ grow r x xs

  -- each seat multiplies the polynomial one ∷ d by 1 − recip s 0 · x
  abbrev pub mask : List ℕ → List C → List C
  mask [] d = d
  mask (s ∷ S) d = mask S (grow (recip s 0) one d)

  length_grow : (r p : C) (d : List C) → length (grow r p d) ≡ length d
  length_grow r p [] = refl
  length_grow r p (x ∷ d) = ap suc (length_grow r x d)

  -- the mask is as long as what it starts from
  pub length_mask : (G : List ℕ) (d : List C) → length (mask G d) ≡ length d
  length_mask [] d = refl
  length_mask (s ∷ G) d = length_mask G (grow (recip s 0) one d) ∙ length_grow (recip s 0) one d

  still_zero : (r : C) → zero ⊕ neg (r ⊗ zero) ≡ zero
  still_zero r = simp units

  grow_zeros : (r : C) (k : ℕ) → grow r zero (replicate k zero) ≡ replicate k zero
  grow_zeros r ℕ.zero = refl
  grow_zeros r (suc k) = ap₂ ◌∷◌ (still_zero r) (grow_zeros r k)

  -- one zero of those at the end is taken up
  grow_front : (r p : C) (e : List C) (k : ℕ) → grow r p (e ++ replicate (suc k) zero) ≡ grow r p (e ++ (zero ∷ [])) ++ replicate k zero
  grow_front r p [] k = ap (λ vs. (zero ⊕ neg (r ⊗ p)) ∷ vs) (grow_zeros r k)
  grow_front r p (x ∷ e) k = ap (λ vs. (x ⊕ neg (r ⊗ p)) ∷ vs) (grow_front r x e k)

  last_step : (r p x g v : C) → g ≡ zero → v ≡ zero →
      p ⊕ x ⊗ ((zero ⊕ neg (r ⊗ p)) ⊕ x ⊗ g) ≡ (one ⊕ neg (r ⊗ x)) ⊗ (p ⊕ x ⊗ (zero ⊕ x ⊗ v))
  last_step r p x g v eg ev = simp (eg, ev, ring)

  grow_step : (r p y x g v : C) → y ⊕ x ⊗ g ≡ (one ⊕ neg (r ⊗ x)) ⊗ v →
      p ⊕ x ⊗ ((y ⊕ neg (r ⊗ p)) ⊕ x ⊗ g) ≡ (one ⊕ neg (r ⊗ x)) ⊗ (p ⊕ x ⊗ v)
  grow_step r p y x g v e = regroup ∙ ap (λ u. (p ⊕ neg (r ⊗ (x ⊗ p))) ⊕ x ⊗ u) e ∙ out
    where
      regroup : p ⊕ x ⊗ ((y ⊕ neg (r ⊗ p)) ⊕ x ⊗ g) ≡ (p ⊕ neg (r ⊗ (x ⊗ p))) ⊕ x ⊗ (y ⊕ x ⊗ g)
      regroup = simp ring

      out : (p ⊕ neg (r ⊗ (x ⊗ p))) ⊕ x ⊗ ((one ⊕ neg (r ⊗ x)) ⊗ v) ≡ (one ⊕ neg (r ⊗ x)) ⊗ (p ⊕ x ⊗ v)
      out = simp ring

  -- with a zero at the end, `grow` multiplies by 1 − r·x
  eval_grow : (r p : C) (e : List C) (k : ℕ) (x : C) → let d = e ++ replicate (suc k) zero in
      eval R (p ∷ grow r p d) x ≡ (one ⊕ neg (r ⊗ x)) ⊗ eval R (p ∷ d) x
  eval_grow r p [] k x =
      last_step r p x _ _ (ap (λ d. eval R d x) (grow_zeros r k) ∙ eval_zeros R k x) (eval_zeros R k x)
  eval_grow r p (y ∷ e) k x = grow_step r p y x _ _ (eval_grow r y e k x)

  -- the product of the factors 1 − recip s 0 · x
  abbrev factors : List ℕ → C → C
  factors [] x = one
  factors (s ∷ G) x = factors G x ⊗ (one ⊕ neg (recip s 0 ⊗ x))

  -- the mask multiplies by all the factors, where a zero stands at the end for each
  mask_factors : (G : List ℕ) (e : List C) (m : ℕ) (x : C) → length G ≤ m →
      eval R (one ∷ mask G (e ++ replicate m zero)) x ≡ factors G x ⊗ eval R (one ∷ (e ++ replicate m zero)) x
  mask_factors [] e m x h = sym (simp units)
  mask_factors (s ∷ G) e ℕ.zero x h = absurd (omega arith)
  mask_factors (s ∷ G) e (suc m) x h =
      let r : C = recip s 0 in
      let same = grow_front r one e m in
      ap (λ d. eval R (one ∷ mask G d) x) same
      ∙ mask_factors G (grow r one (e ++ (zero ∷ []))) m x (omega arith)
      ∙ ap (λ v. factors G x ⊗ v) (sym (ap (λ d. eval R (one ∷ d) x) same) ∙ eval_grow r one e m x)
      ∙ sym (times_assoc R _ _ _)

  gap_step : (p z r : C) → z ≡ zero → (p ⊕ neg z) ⊗ r ≡ one → one ⊕ neg (r ⊗ p) ≡ zero
  gap_step p z r ez e = ap (λ v. v ⊕ neg (r ⊗ p)) (sym e) ∙ simp (ez, ring)

  factors_zero : {s : ℕ} {G : List ℕ} → 1 ≤ s → s ≤ last → Memᴰ s G → factors G (point s) ≡ zero
  factors_zero {s} low high (Memᴰ.head {x = t} {xs = G} e) =
      ap (λ v. factors G (point s) ⊗ (one ⊕ neg (recip v 0 ⊗ point s))) (sym e)
      ∙ ap (λ v. factors G (point s) ⊗ v) (gap_step (point s) (point 0) (recip s 0) P.point_zero (P.gap s 0 high (omega arith) (omega arith)))
      ∙ times_zero R _
  factors_zero {s} low high (Memᴰ.tail {x = t} {xs = G} h) =
      ap (λ v. v ⊗ (one ⊕ neg (recip t 0 ⊗ point s))) (factors_zero low high h) ∙ zero_times R _

  -- the mask of the seats G is zero at each of them
  pub mask_zero : (G : List ℕ) (m : ℕ) → length G ≤ m → (s : ℕ) → 1 ≤ s → s ≤ last → Memᴰ s G →
      eval R (one ∷ mask G (replicate m zero)) (point s) ≡ zero
  mask_zero G m h s low high here =
      mask_factors G [] m (point s) h ∙ ap (λ v. v ⊗ eval R (one ∷ replicate m zero) (point s)) (factors_zero low high here) ∙ zero_times R _
