-- The codes of a lawful kind as a ring with points: once across, every lemma of an abstract ring speaks of codes.
-- Assumes nothing.
use Rattle.std.proofs.Common.{◌≡◌, ℕ, ◌%◌, ◌<◌, true, List, [], ◌∷◌, map, sym, refl, ap, ◌∙◌, ap₂, mod-lt, mod-eq_of_lt, arith}
use mathlib.Core.HLevel.{Σ_prop_path}
use native.Mathlib.Bridge.{le_prop}
use Rattle.std.proofs.lemmas.Bool.{and_parts, and_from, ltb-true, lt-ltb}
use Rattle.kinds.specs.Kind.{Ops, Lawful, last_point, difference}
use Rattle.sharing.specs.Rebuilding.{all_below}
use Rattle.sharing.proofs.Ring.{Ring, Points}

-- a code below the size
abbrev pub Code : Ops → Type 0
Code o = (c : ℕ) × (c < o.size)

-- the first of some numbers below a size, and the rest
pub below_parts : (size c : ℕ) (cs : List ℕ) → all_below size (c ∷ cs) ≡ true → (c < size) × (all_below size cs ≡ true)
below_parts size c cs h = let (here, rest) = and_parts _ _ h in (ltb-true c size here, rest)

pub below_from : (size c : ℕ) (cs : List ℕ) → c < size → all_below size cs ≡ true → all_below size (c ∷ cs) ≡ true
below_from size c cs h rest = and_from _ _ (lt-ltb c size h) rest

module _ (o : Ops) where
  -- the number of a code
  abbrev pub code : Code o → ℕ
  code x = x.0

  -- two codes with one number are one
  pub same_code : (x y : Code o) → code x ≡ code y → x ≡ y
  same_code x y e = Σ_prop_path {B = λ c. c < o.size} (λ c. le_prop) {u = x} {v = y} e

module _ (o : Ops) (L : Lawful o) where
  -- the code that a number counts as
  unfoldable pub to : ℕ → Code o
  to c = let h : 0 < o.size = omega (arith, L.size_low) in (c % o.size, mod-lt c h)

  -- the operations on codes make a ring
  unfoldable pub codes : Ring (Code o)
  codes =
      record {
        zero = (0, omega (arith, L.size_low));
        one = (o.unit, L.unit_below);
        plus = λ a b. (o.sum a.0 b.0, L.sum_below a.0 b.0);
        neg = λ a. (o.negative a.0, L.negative_below a.0);
        times = λ a b. (o.product a.0 b.0, L.product_below a.0 b.0);
        plus_assoc = λ a b c. same_code o _ _ (L.sum_assoc a.0 b.0 c.0 a.1 b.1 c.1);
        plus_comm = λ a b. same_code o _ _ (L.sum_comm a.0 b.0 a.1 b.1);
        plus_zero = λ a. same_code o _ _ (L.sum_zero a.0 a.1);
        plus_neg = λ a. same_code o _ _ (L.sum_negative a.0 a.1);
        times_assoc = λ a b c. same_code o _ _ (L.product_assoc a.0 b.0 c.0 a.1 b.1 c.1);
        times_comm = λ a b. same_code o _ _ (L.product_comm a.0 b.0 a.1 b.1);
        times_plus = λ a b c. same_code o _ _ (L.distributes a.0 b.0 c.0 a.1 b.1 c.1);
        one_times = λ a. same_code o _ _ (L.unit_times a.0 a.1);
      }

  -- the points of the kind
  unfoldable pub places : Points codes
  unfolding codes
  places =
      record {
        last = last_point;
        point = λ i. (o.point i, L.point_below i);
        recip = λ i j. (o.reciprocal i j, L.reciprocal_below i j);
        point_zero = same_code o _ _ L.point_zero;
        gap = λ i j hi hj far. same_code o _ _ (L.gap i j hi hj far);
      }

  open codes use {zero, one, plus as ◌⊕◌, neg, times as ◌⊗◌}
  open places use {last, point, recip}

  infixl 65 ◌⊕◌
  infixl 70 ◌⊗◌
  pub last_is : last ≡ last_point
  unfolding places
  last_is = refl

  -- a number below the size counts as itself
  pub code_to : (c : ℕ) → c < o.size → code o (to c) ≡ c
  unfolding to
  code_to c h = mod-eq_of_lt h

  pub to_code : (x : Code o) → to (code o x) ≡ x
  to_code x = same_code o _ _ (code_to x.0 x.1)

  -- numbers below the size that count as one code are equal
  pub to_injective : (a b : ℕ) → a < o.size → b < o.size → to a ≡ to b → a ≡ b
  to_injective a b ha hb e = sym (code_to a ha) ∙ ap (code o) e ∙ code_to b hb

  -- each operation goes to that of the ring
  pub to_zero : to 0 ≡ zero
  unfolding codes
  to_zero = to_code zero

  pub to_unit : to o.unit ≡ one
  unfolding codes
  to_unit = to_code one

  pub to_point : (i : ℕ) → to (o.point i) ≡ point i
  unfolding places
  to_point i = to_code (point i)

  pub to_reciprocal : (i j : ℕ) → to (o.reciprocal i j) ≡ recip i j
  unfolding places
  to_reciprocal i j = to_code (recip i j)

  pub to_sum : (a b : ℕ) → to (o.sum a b) ≡ to a ⊕ to b
  unfolding codes to
  to_sum a b = ap to (L.sum_counts a b) ∙ to_code (to a ⊕ to b)

  pub to_negative : (a : ℕ) → to (o.negative a) ≡ neg (to a)
  unfolding codes to
  to_negative a = ap to (L.negative_counts a) ∙ to_code (neg (to a))

  pub to_product : (a b : ℕ) → to (o.product a b) ≡ to a ⊗ to b
  unfolding codes to
  to_product a b = ap to (L.product_counts a b) ∙ to_code (to a ⊗ to b)

  pub to_difference : (a b : ℕ) → to (difference o a b) ≡ to a ⊕ neg (to b)
  to_difference a b = to_sum a (o.negative b) ∙ ap (λ v. to a ⊕ v) (to_negative b)

  -- a list of codes has numbers below the size
  pub codes_below : (xs : List (Code o)) → all_below o.size (map (code o) xs) ≡ true
  codes_below [] = refl
  codes_below (x ∷ xs) = below_from o.size x.0 (map (code o) xs) x.1 (codes_below xs)

  pub to_codes : (xs : List (Code o)) → map to (map (code o) xs) ≡ xs
  to_codes [] = refl
  to_codes (x ∷ xs) = ap₂ ◌∷◌ (to_code x) (to_codes xs)

  pub codes_to : (xs : List ℕ) → all_below o.size xs ≡ true → map (code o) (map to xs) ≡ xs
  codes_to [] h = refl
  codes_to (x ∷ xs) h = let (here, rest) = below_parts o.size x xs h in ap₂ ◌∷◌ (code_to x here) (codes_to xs rest)

  pub to_lists_injective : (xs ys : List ℕ) → all_below o.size xs ≡ true → all_below o.size ys ≡ true → map to xs ≡ map to ys → xs ≡ ys
  to_lists_injective xs ys hx hy e = sym (codes_to xs hx) ∙ ap (map (code o)) e ∙ codes_to ys hy
