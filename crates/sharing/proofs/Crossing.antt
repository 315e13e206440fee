-- Shares, weights and masks over codes are those of the ring of codes.
-- Assumes nothing.
use Rattle.std.proofs.Common.{◌≡◌, ℕ, suc, ◌<◌, Bool, true, false, cond, eqb, List, [], ◌∷◌, map, length, replicate, sym, refl, ap, ◌∙◌, ap₂, arith}
use lib.Lanes.{zip2}
use lib.ListN.{length-map, length-replicate}
use Rattle.kinds.specs.Kind.{Ops, Lawful}
use Rattle.sharing.specs.Shares.{value_at, weight_part, weight_among, weighed}
use Rattle.sharing.specs.Promises.{values_at, constant_of}
use Rattle.sharing.specs.Masks.{grown, masked, mask_of, shifted}
use Rattle.sharing.specs.Rebuilding.{all_below}
use Rattle.sharing.proofs.Ring.{Ring, Points}
use Rattle.sharing.proofs.Polynomials.{eval, eval_zero, add, scale}
use Rattle.sharing.proofs.Lagrange.{factor, weight, combine}
use Rattle.sharing.proofs.Newton.{values}
use Rattle.sharing.proofs.Masking.{grow, mask, length_mask}
use Rattle.sharing.proofs.Codes.{Code, to, codes, places, below_parts, below_from, to_zero, to_unit, to_point, to_reciprocal, to_sum, to_negative, to_product, to_difference}

module _ (o : Ops) (L : Lawful o) where
  abbrev C : Type 0
  C = Code o

  abbrev R : Ring C
  R = codes o L

  abbrev P : Points R
  P = places o L

  abbrev τ : ℕ → C
  τ = to o L

  open R use {zero, one, plus as ◌⊕◌, neg, times as ◌⊗◌}
  open P use {point, recip}

  infixl 65 ◌⊕◌
  infixl 70 ◌⊗◌
  -- a polynomial's value
  pub to_value_at : (f : List ℕ) (x : ℕ) → τ (value_at o f x) ≡ eval R (map τ f) (τ x)
  to_value_at [] x = to_zero o L
  to_value_at (c ∷ f) x =
      to_sum o L c (o.product x (value_at o f x))
      ∙ ap (λ v. τ c ⊕ v) (to_product o L x (value_at o f x) ∙ ap (λ v. τ x ⊗ v) (to_value_at f x))

  pub to_value_at_point : (f : List ℕ) (i : ℕ) → τ (value_at o f (o.point i)) ≡ eval R (map τ f) (point i)
  to_value_at_point f i = to_value_at f (o.point i) ∙ ap (eval R (map τ f)) (to_point o L i)

  -- the values at some seats
  pub to_values_at : (f seats : List ℕ) → map τ (values_at o f seats) ≡ values R P (map τ f) seats
  to_values_at f [] = refl
  to_values_at f (s ∷ seats) = ap₂ ◌∷◌ (to_value_at_point f s) (to_values_at f seats)

  -- the constant is the value at zero
  pub to_constant : (f : List ℕ) → τ (constant_of f) ≡ eval R (map τ f) zero
  to_constant [] = to_zero o L
  to_constant (c ∷ f) = sym (eval_zero R (τ c) (map τ f))

  pub value_below : (f : List ℕ) (x : ℕ) → value_at o f x < o.size
  value_below [] x = omega (arith, L.size_low)
  value_below (c ∷ f) x = L.sum_below c (o.product x (value_at o f x))

  pub values_below : (f seats : List ℕ) → all_below o.size (values_at o f seats) ≡ true
  values_below f [] = refl
  values_below f (s ∷ seats) = below_from o.size _ (values_at o f seats) (value_below f (o.point s)) (values_below f seats)

  pub constant_below : (f : List ℕ) → all_below o.size f ≡ true → constant_of f < o.size
  constant_below [] h = omega (arith, L.size_low)
  constant_below (c ∷ f) h = (below_parts o.size c f h).0

  to_cond : (b : Bool) (x y : ℕ) → τ (cond b x y) ≡ cond b (τ x) (τ y)
  to_cond true x y = refl
  to_cond false x y = refl

  to_weight_part : (i j : ℕ) → τ (weight_part o i j) ≡ factor R P i j
  to_weight_part i j =
      to_cond (eqb i j) o.unit (o.product (o.negative (o.point j)) (o.reciprocal i j))
      ∙ ap₂ (cond (eqb i j)) (to_unit o L)
      (to_product o L (o.negative (o.point j)) (o.reciprocal i j)
      ∙ ap₂ ◌⊗◌ (to_negative o L (o.point j) ∙ ap neg (to_point o L j)) (to_reciprocal o L i j))

  -- a seat's weight
  pub to_weight_among : (seats : List ℕ) (i : ℕ) → τ (weight_among o seats i) ≡ weight R P seats i
  to_weight_among [] i = to_unit o L
  to_weight_among (j ∷ seats) i =
      to_product o L (weight_part o i j) (weight_among o seats i) ∙ ap₂ ◌⊗◌ (to_weight_part i j) (to_weight_among seats i)

  pub to_weights : (seats at : List ℕ) → map τ (map (weight_among o seats) at) ≡ map (weight R P seats) at
  to_weights seats [] = refl
  to_weights seats (i ∷ at) = ap₂ ◌∷◌ (to_weight_among seats i) (to_weights seats at)

  -- the sum of some values, each times its weight
  pub to_weighed : (ws cs : List ℕ) → τ (weighed o ws cs) ≡ combine R P (map τ ws) (map τ cs)
  to_weighed [] cs = to_zero o L
  to_weighed (w ∷ ws) [] = to_zero o L
  to_weighed (w ∷ ws) (c ∷ cs) = to_sum o L (o.product w c) (weighed o ws cs) ∙ ap₂ ◌⊕◌ (to_product o L w c) (to_weighed ws cs)

  pub weighed_below : (ws cs : List ℕ) → weighed o ws cs < o.size
  weighed_below [] cs = omega (arith, L.size_low)
  weighed_below (w ∷ ws) [] = omega (arith, L.size_low)
  weighed_below (w ∷ ws) (c ∷ cs) = L.sum_below (o.product w c) (weighed o ws cs)

  -- the products of the values of two polynomials
  pub to_products : (f g seats : List ℕ) →
      map τ (zip2 o.product (values_at o f seats) (values_at o g seats)) ≡ map (λ i. eval R (map τ f) (point i) ⊗ eval R (map τ g) (point i)) seats
  to_products f g [] = refl
  to_products f g (s ∷ seats) =
      ap₂ ◌∷◌
      (to_product o L (value_at o f (o.point s)) (value_at o g (o.point s)) ∙ ap₂ ◌⊗◌ (to_value_at_point f s) (to_value_at_point g s))
      (to_products f g seats)

  to_grown : (r p : ℕ) (r' p' : C) (cs : List ℕ) → τ r ≡ r' → τ p ≡ p' → map τ (grown o r p cs) ≡ grow R P r' p' (map τ cs)
  to_grown r p r' p' [] er ep = refl
  to_grown r p r' p' (c ∷ cs) er ep =
      ap₂ ◌∷◌
      (to_difference o L c (o.product r p) ∙ ap (λ v. τ c ⊕ neg v) (to_product o L r p ∙ ap₂ ◌⊗◌ er ep))
      (to_grown r c r' (τ c) cs er refl)

  pub to_masked : (group strip : List ℕ) → map τ (masked o group strip) ≡ mask R P group (map τ strip)
  to_masked [] strip = refl
  to_masked (s ∷ group) strip =
      to_masked group (grown o (o.reciprocal s 0) o.unit strip)
      ∙ ap (mask R P group) (to_grown (o.reciprocal s 0) o.unit (recip s 0) one strip (to_reciprocal o L s 0) (to_unit o L))

  to_zeros : (m : ℕ) → map τ (replicate m 0) ≡ replicate m zero
  to_zeros ℕ.zero = refl
  to_zeros (suc m) = ap₂ ◌∷◌ (to_zero o L) (to_zeros m)

  -- the mask of a group
  pub to_mask_of : (group : List ℕ) (m : ℕ) → map τ (mask_of o group m) ≡ mask R P group (replicate m zero)
  to_mask_of group m = to_masked group (replicate m 0) ∙ ap (mask R P group) (to_zeros m)

  pub length_mask_of : (group : List ℕ) (m : ℕ) → length (mask_of o group m) ≡ m
  length_mask_of group m =
      sym (length-map (mask_of o group m) τ) ∙ ap length (to_mask_of group m) ∙ length_mask R P group (replicate m zero) ∙ length-replicate m zero

  -- a strip moved by a multiple of another
  pub to_shifted : (by : ℕ) (mask strip : List ℕ) → length strip ≡ length mask →
      map τ (shifted o by mask strip) ≡ add R (map τ strip) (scale R (τ by) (map τ mask))
  to_shifted by [] [] e = refl
  to_shifted by [] (c ∷ strip) e = absurd (omega arith)
  to_shifted by (d ∷ mask) [] e = absurd (omega arith)
  to_shifted by (d ∷ mask) (c ∷ strip) e =
      ap₂ ◌∷◌ (to_sum o L c (o.product by d) ∙ ap (λ v. τ c ⊕ v) (to_product o L by d)) (to_shifted by mask strip (omega arith))

  pub shifted_below : (by : ℕ) (mask strip : List ℕ) → all_below o.size (shifted o by mask strip) ≡ true
  shifted_below by mask [] = refl
  shifted_below by [] (c ∷ strip) = refl
  shifted_below by (d ∷ mask) (c ∷ strip) =
      below_from o.size _ (shifted o by mask strip) (L.sum_below c (o.product by d)) (shifted_below by mask strip)
