-- Polynomials as lists of coefficients, lowest first: their values, sums and products, and division by x − r.
-- Assumes nothing.
use Rattle.std.proofs.Common.{◌≡◌, ℕ, suc, ◌+◌, ◌≤◌, List, [], ◌∷◌, map, length, replicate, sym, refl, ap, ◌∙◌, ap₂, arith}
use lib.ListN.{length-map}
use Rattle.sharing.proofs.Ring.{Ring}
use Rattle.sharing.proofs.RingLaws.{ring, units}

module _ {C : Type 0} (R : Ring C) where
  open R use {zero, one, plus as ◌⊕◌, neg, times as ◌⊗◌}

  infixl 65 ◌⊕◌
  infixl 70 ◌⊗◌
  abbrev pub eval : List C → C → C
  eval [] x = zero
  eval (c ∷ cs) x = c ⊕ x ⊗ eval cs x

  -- the quotient of c ∷ g by x − r, whatever c is
  abbrev pub quotient : C → List C → List C
  quotient r [] = []
  quotient r (d ∷ g) = eval (d ∷ g) r ∷ quotient r g

  -- y + (x − r)·q
  abbrev pub lift : C → C → List C → List C
  lift r y [] = y ∷ []
  lift r y (q ∷ qs) = (y ⊕ neg (r ⊗ q)) ∷ lift r q qs

  abbrev pub add : List C → List C → List C
  add [] g = g
  add (c ∷ f) [] = c ∷ f
  add (c ∷ f) (d ∷ g) = (c ⊕ d) ∷ add f g

  abbrev pub scale : C → List C → List C
  scale c = map (◌⊗◌ c)

  abbrev pub mul : List C → List C → List C
  mul [] g = []
  mul (c ∷ f) g = add (scale c g) (zero ∷ mul f g)

  pub length_quotient : (r : C) (g : List C) → length (quotient r g) ≡ length g
  length_quotient r [] = refl
  length_quotient r (d ∷ g) = ap suc (length_quotient r g)

  pub length_lift : (r y : C) (q : List C) → length (lift r y q) ≡ suc (length q)
  length_lift r y [] = refl
  length_lift r y (q ∷ qs) = ap suc (length_lift r q qs)

  last_term : (c x : C) → c ⊕ x ⊗ zero ≡ c
  last_term c x = simp units

  divide_step : (c x r e q : C) → c ⊕ x ⊗ (e ⊕ (x ⊕ neg r) ⊗ q) ≡ (c ⊕ r ⊗ e) ⊕ (x ⊕ neg r) ⊗ (e ⊕ x ⊗ q)
  divide_step c x r e q = simp ring

  -- the value at x is that at r and a multiple of x − r
  pub divide : (c : C) (g : List C) (r x : C) → eval (c ∷ g) x ≡ eval (c ∷ g) r ⊕ (x ⊕ neg r) ⊗ eval (quotient r g) x
  divide c [] r x = last_term c x ∙ sym (last_term (c ⊕ r ⊗ zero) (x ⊕ neg r) ∙ last_term c r)
  divide c (d ∷ g) r x = ap (λ v. c ⊕ x ⊗ v) (divide d g r x) ∙ divide_step c x r (eval (d ∷ g) r) (eval (quotient r g) x)

  lift_step : (y x r q v : C) → (y ⊕ neg (r ⊗ q)) ⊕ x ⊗ (q ⊕ (x ⊕ neg r) ⊗ v) ≡ y ⊕ (x ⊕ neg r) ⊗ (q ⊕ x ⊗ v)
  lift_step y x r q v = simp ring

  -- the value of a lift
  pub eval_lift : (r y : C) (q : List C) (x : C) → eval (lift r y q) x ≡ y ⊕ (x ⊕ neg r) ⊗ eval q x
  eval_lift r y [] x = simp units
  eval_lift r y (q ∷ qs) x = ap (λ v. (y ⊕ neg (r ⊗ q)) ⊕ x ⊗ v) (eval_lift r q qs x) ∙ lift_step y x r q (eval qs x)

  taken : (a b : C) → (a ⊕ b) ⊕ neg b ≡ a
  taken a b = simp ring

  -- the division undone
  pub lift_quotient : (c : C) (g : List C) (r : C) → lift r (eval (c ∷ g) r) (quotient r g) ≡ c ∷ g
  lift_quotient c [] r = ap (λ a. a ∷ []) (last_term c r)
  lift_quotient c (d ∷ g) r = ap₂ ◌∷◌ (taken c (r ⊗ eval (d ∷ g) r)) (lift_quotient d g r)

  first_term : (c v : C) → c ⊕ zero ⊗ v ≡ c
  first_term c v = simp units

  -- the value at zero is the first coefficient
  pub eval_zero : (c : C) (g : List C) → eval (c ∷ g) zero ≡ c
  eval_zero c g = first_term c (eval g zero)

  -- a list of zeros has the value zero everywhere
  pub eval_zeros : (n : ℕ) (x : C) → eval (replicate n zero) x ≡ zero
  eval_zeros ℕ.zero x = refl
  eval_zeros (suc n) x = rw (eval_zeros n x) (simp units)

  add_step : (c d x u v : C) → (c ⊕ d) ⊕ x ⊗ (u ⊕ v) ≡ (c ⊕ x ⊗ u) ⊕ (d ⊕ x ⊗ v)
  add_step c d x u v = simp ring

  pub eval_add : (f g : List C) (x : C) → eval (add f g) x ≡ eval f x ⊕ eval g x
  eval_add [] g x = simp units
  eval_add (c ∷ f) [] x = simp units
  eval_add (c ∷ f) (d ∷ g) x = ap (λ v. (c ⊕ d) ⊕ x ⊗ v) (eval_add f g x) ∙ add_step c d x (eval f x) (eval g x)

  scale_step : (c d x v : C) → c ⊗ d ⊕ x ⊗ (c ⊗ v) ≡ c ⊗ (d ⊕ x ⊗ v)
  scale_step c d x v = simp ring

  pub eval_scale : (c : C) (f : List C) (x : C) → eval (scale c f) x ≡ c ⊗ eval f x
  eval_scale c [] x = simp units
  eval_scale c (d ∷ f) x = ap (λ v. c ⊗ d ⊕ x ⊗ v) (eval_scale c f x) ∙ scale_step c d x (eval f x)

  mul_step : (c x u v : C) → c ⊗ v ⊕ (zero ⊕ x ⊗ (u ⊗ v)) ≡ (c ⊕ x ⊗ u) ⊗ v
  mul_step c x u v = simp ring

  -- the value of a product is the product of the values
  pub eval_mul : (f g : List C) (x : C) → eval (mul f g) x ≡ eval f x ⊗ eval g x
  eval_mul [] g x = simp units
  eval_mul (c ∷ f) g x =
      eval_add (scale c g) (zero ∷ mul f g) x
      ∙ ap₂ (λ u v. u ⊕ (zero ⊕ x ⊗ v)) (eval_scale c g x) (eval_mul f g x)
      ∙ mul_step c x (eval f x) (eval g x)

  length_add : (f g : List C) (k : ℕ) → length f ≤ k → length g ≤ k → length (add f g) ≤ k
  length_add [] g k hf hg = hg
  length_add (c ∷ f) [] k hf hg = hf
  length_add (c ∷ f) (d ∷ g) ℕ.zero hf hg = omega arith
  length_add (c ∷ f) (d ∷ g) (suc k) hf hg = let h = length_add f g k (omega arith) (omega arith) in omega arith

  -- a product of at most m and n + 1 coefficients has at most m + n
  pub length_mul : (f g : List C) (m n : ℕ) → length f ≤ m → length g ≤ suc n → length (mul f g) ≤ m + n
  length_mul [] g m n hf hg = omega arith
  length_mul (c ∷ f) g ℕ.zero n hf hg = omega arith
  length_mul (c ∷ f) g (suc m) n hf hg =
      let h = length_mul f g m n (omega arith) hg in
      length_add (scale c g) (zero ∷ mul f g) (suc m + n) (simp length-map (omega arith)) (omega arith)
