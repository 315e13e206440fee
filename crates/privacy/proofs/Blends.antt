-- Steps in a ring that shares of two runs take, and the polynomial that the weights of some seats make of one
-- polynomial for each seat. Assumes nothing.
use Rattle.std.proofs.Common.{◌≡◌, ℕ, suc, ◌+◌, ◌≤◌, true, eqb, List, [], ◌∷◌, map, length, replicate, sym, refl, ap, ◌∙◌, ap₂, ⊎_elim, arith}
use lib.ListN.{length-map, length-replicate}
use Rattle.std.specs.List.{range_with_len}
use Rattle.std.proofs.lemmas.Bool.{or_cases, eqb-true, false≢true}
use Rattle.sharing.specs.Rebuilding.{holds}
use Rattle.sharing.proofs.Ring.{Ring, Points}
use Rattle.sharing.proofs.RingLaws.{ring, units, plus_neg, neg_sum, neg_neg, plus_comm, plus_neg_past}
use Rattle.sharing.proofs.Polynomials.{eval, add, scale, eval_add, eval_scale, eval_zeros}
use Rattle.sharing.proofs.Lagrange.{combine}
use Rattle.privacy.specs.Totals.{SeatsOf}

-- each of some seats in a row is 1 to n
pub seats_counted : (n a m : ℕ) → 1 ≤ a → a + m ≤ suc n → SeatsOf n (range_with_len a m)
seats_counted n a ℕ.zero low high = tt
seats_counted n a (suc m) low high = (low, omega arith, seats_counted n (a + 1) m (omega arith) (omega arith))

-- a seat among some of 1 to n
pub seat_within : (n s : ℕ) (S : List ℕ) → SeatsOf n S → holds s S ≡ true → (1 ≤ s) × (s ≤ n)
seat_within n s [] of_n h = absurd (false≢true h)
seat_within n s (t ∷ S) of_n h =
    ⊎_elim (λ (e : eqb s t ≡ true). let same = eqb-true s t e in (omega arith, omega arith)) (λ e. seat_within n s S of_n.2 e) (or_cases (eqb s t) (holds s S) h)

-- functions that agree at the seats 1 to n
pub map_same : {A : Type 0} (n : ℕ) (f g : ℕ → A) → ((s : ℕ) → 1 ≤ s → s ≤ n → f s ≡ g s) → (S : List ℕ) → SeatsOf n S → map f S ≡ map g S
map_same n f g e [] of_n = refl
map_same n f g e (s ∷ S) of_n = ap₂ ◌∷◌ (e s of_n.0 of_n.1) (map_same n f g e S of_n.2)

pub map_twice : {A B D : Type 0} (f : B → D) (g : A → B) (xs : List A) → map f (map g xs) ≡ map (λ x. f (g x)) xs
map_twice f g [] = refl
map_twice f g (x ∷ xs) = ap (◌∷◌ (f (g x))) (map_twice f g xs)

module _ {C : Type 0} (R : Ring C) where
  open R use {zero, one, plus as ◌⊕◌, neg, times as ◌⊗◌}

  infixl 65 ◌⊕◌
  infixl 70 ◌⊗◌
  -- the constant moves by d and the others by d times m
  pub moved_by : (v w x s m : C) → w ⊕ x ⊗ (s ⊕ (w ⊕ neg v) ⊗ m) ≡ (v ⊕ x ⊗ s) ⊕ (w ⊕ neg v) ⊗ (one ⊕ x ⊗ m)
  moved_by v w x s m = ap (λ c. c ⊕ x ⊗ (s ⊕ (w ⊕ neg v) ⊗ m)) (sym (plus_neg_past R v w)) ∙ step (w ⊕ neg v)
    where
      step : (d : C) → (v ⊕ d) ⊕ x ⊗ (s ⊕ d ⊗ m) ≡ (v ⊕ x ⊗ s) ⊕ d ⊗ (one ⊕ x ⊗ m)
      step d = simp ring

  pub moved_none : (a v m : C) → a ≡ a ⊕ (v ⊕ neg v) ⊗ m
  moved_none a v m = sym (simp (plus_neg, units))

  pub moved_at_zero : (a d : C) → a ⊕ d ⊗ zero ≡ a
  moved_at_zero a d = simp units

  pub moved_sum : (a b v w v' w' m : C) → (a ⊕ (w ⊕ neg v) ⊗ m) ⊕ (b ⊕ (w' ⊕ neg v') ⊗ m) ≡ (a ⊕ b) ⊕ ((w ⊕ w') ⊕ neg (v ⊕ v')) ⊗ m
  moved_sum a b v w v' w' m = simp ring

  pub moved_scale : (c a v w m : C) → c ⊗ (a ⊕ (w ⊕ neg v) ⊗ m) ≡ c ⊗ a ⊕ (c ⊗ w ⊕ neg (c ⊗ v)) ⊗ m
  moved_scale c a v w m = simp ring

  pub moved_back : (a v w m : C) → a ≡ (a ⊕ (w ⊕ neg v) ⊗ m) ⊕ (v ⊕ neg w) ⊗ m
  moved_back a v w m =
      sym (ap (λ e. (a ⊕ (w ⊕ neg v) ⊗ m) ⊕ e ⊗ m) turned ∙ step (w ⊕ neg v))
    where
      turned : v ⊕ neg w ≡ neg (w ⊕ neg v)
      turned = sym (neg_sum R w (neg v) ∙ ap (◌⊕◌ (neg w)) (neg_neg R v) ∙ plus_comm R (neg w) v)

      step : (d : C) → (a ⊕ d ⊗ m) ⊕ neg d ⊗ m ≡ a
      step d = simp ring

  -- a sum of two polynomials of one length
  pub length_sum : (f g : List C) (k : ℕ) → length f ≡ k → length g ≡ k → length (add R f g) ≡ k
  length_sum [] g k hf hg = hg
  length_sum (c ∷ f) [] k hf hg = hf
  length_sum (c ∷ f) (d ∷ g) ℕ.zero hf hg = absurd (omega arith)
  length_sum (c ∷ f) (d ∷ g) (suc k) hf hg = ap suc (length_sum f g k (omega arith) (omega arith))

  module _ (P : Points R) (n : ℕ) (weight : ℕ → C) where
    -- the values at the seats, each times its weight
    abbrev sum_at : (ℕ → C) → List ℕ → C
    sum_at F S = combine R P (map weight S) (map F S)

    differ_step : (w a p q m u t z : C) → w ⊗ (a ⊕ (q ⊕ neg p) ⊗ m) ⊕ (u ⊕ (z ⊕ neg t) ⊗ m) ≡ (w ⊗ a ⊕ u) ⊕ ((w ⊗ q ⊕ z) ⊕ neg (w ⊗ p ⊕ t)) ⊗ m
    differ_step w a p q m u t z = simp ring

    -- values that each differ by a multiple of m
    pub sum_differs : (a b p q : ℕ → C) (m : C) → ((s : ℕ) → 1 ≤ s → s ≤ n → b s ≡ a s ⊕ (q s ⊕ neg (p s)) ⊗ m)
        → (S : List ℕ) → SeatsOf n S → sum_at b S ≡ sum_at a S ⊕ (sum_at q S ⊕ neg (sum_at p S)) ⊗ m
    sum_differs a b p q m e [] of_n = sym (simp units)
    sum_differs a b p q m e (s ∷ S) of_n =
        ap₂ (λ u v. weight s ⊗ u ⊕ v) (e s of_n.0 of_n.1) (sum_differs a b p q m e S of_n.2)
        ∙ differ_step (weight s) (a s) (p s) (q s) m (sum_at a S) (sum_at p S) (sum_at q S)

    module _ (k : ℕ) (poly : (s : ℕ) → 1 ≤ s → s ≤ n → List C) where
      -- the polynomials of the seats, each times its weight
      abbrev pub blend : (S : List ℕ) → SeatsOf n S → List C
      blend [] of_n = replicate k zero
      blend (s ∷ S) of_n = add R (scale R (weight s) (poly s of_n.0 of_n.1)) (blend S of_n.2)

      pub length_blend : ((s : ℕ) (low : 1 ≤ s) (high : s ≤ n) → length (poly s low high) ≡ k) → (S : List ℕ) (of_n : SeatsOf n S) → length (blend S of_n) ≡ k
      length_blend long [] of_n = length-replicate k zero
      length_blend long (s ∷ S) of_n =
          length_sum _ (blend S of_n.2) k (length-map (poly s of_n.0 of_n.1) _ ∙ long s of_n.0 of_n.1) (length_blend long S of_n.2)

      -- its value is the sum of the values, each times its weight
      pub eval_blend : (x : C) (F : ℕ → C) → ((s : ℕ) (low : 1 ≤ s) (high : s ≤ n) → F s ≡ eval R (poly s low high) x)
          → (S : List ℕ) (of_n : SeatsOf n S) → sum_at F S ≡ eval R (blend S of_n) x
      eval_blend x F e [] of_n = sym (eval_zeros R k x)
      eval_blend x F e (s ∷ S) of_n =
          let f : List C = poly s of_n.0 of_n.1 in
          ap₂ (λ u v. weight s ⊗ u ⊕ v) (e s of_n.0 of_n.1) (eval_blend x F e S of_n.2)
          ∙ sym (eval_add R (scale R (weight s) f) (blend S of_n.2) x ∙ ap (λ v. v ⊕ eval R (blend S of_n.2) x) (eval_scale R (weight s) f x))
