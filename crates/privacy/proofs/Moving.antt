-- A strip moved by a multiple of the mask: how long it is, and that moving it back gives the strip again.
-- Assumes nothing.
use Rattle.std.proofs.Common.{◌≡◌, ℕ, suc, ◌<◌, true, List, [], ◌∷◌, length, refl, ap, ◌∙◌, ap₂, arith}
use lib.Lanes.{zip2}
use Rattle.kinds.specs.Kind.{Ops, Lawful, difference}
use Rattle.sharing.specs.Masks.{shifted}
use Rattle.sharing.specs.Rebuilding.{all_below}
use Rattle.sharing.proofs.Codes.{Code, to, codes, below_parts, to_injective, to_sum, to_product, to_difference}
use Rattle.sharing.proofs.Ring.{Ring}
use Rattle.sharing.proofs.RingLaws.{ring}

pub length_shifted : (o : Ops) (by : ℕ) (mask strip : List ℕ) → length strip ≡ length mask → length (shifted o by mask strip) ≡ length strip
length_shifted o by [] [] e = refl
length_shifted o by [] (c ∷ strip) e = absurd (omega arith)
length_shifted o by (d ∷ mask) [] e = refl
length_shifted o by (d ∷ mask) (c ∷ strip) e = ap suc (length_shifted o by mask strip (omega arith))

in_one_step : (f g : ℕ → ℕ → ℕ) (xs ys : List ℕ) → zip2 g (zip2 f xs ys) ys ≡ zip2 (λ c d. g (f c d) d) xs ys
in_one_step f g [] ys = refl
in_one_step f g (x ∷ xs) [] = refl
in_one_step f g (x ∷ xs) (y ∷ ys) = ap (λ rest. g (f x y) y ∷ rest) (in_one_step f g xs ys)

module _ {C : Type 0} (R : Ring C) where
  open R use {zero, plus as ◌⊕◌, neg, times as ◌⊗◌}

  infixl 65 ◌⊕◌
  infixl 70 ◌⊗◌
  there_back : (a b c d : C) → (c ⊕ (b ⊕ neg a) ⊗ d) ⊕ (a ⊕ neg b) ⊗ d ≡ c
  there_back a b c d = simp ring

  nowhere : (a c d : C) → c ⊕ (a ⊕ neg a) ⊗ d ≡ c
  nowhere a c d = simp ring

module _ (o : Ops) (L : Lawful o) where
  open codes o L use {plus as ◌⊕◌, neg, times as ◌⊗◌}

  infixl 65 ◌⊕◌
  infixl 70 ◌⊗◌
  abbrev τ : ℕ → Code o
  τ = to o L

  -- a code moved
  to_moved : (a b c d : ℕ) → τ (o.sum c (o.product (difference o b a) d)) ≡ τ c ⊕ (τ b ⊕ neg (τ a)) ⊗ τ d
  to_moved a b c d = to_sum o L c _ ∙ ap (λ x. τ c ⊕ x) (to_product o L _ d ∙ ap (λ x. x ⊗ τ d) (to_difference o L b a))

  code_back : (a b c d : ℕ) → c < o.size → o.sum (o.sum c (o.product (difference o b a) d)) (o.product (difference o a b) d) ≡ c
  code_back a b c d h =
      to_injective o L _ c (L.sum_below _ _) h
      (to_moved b a _ d ∙ ap (λ x. x ⊕ (τ a ⊕ neg (τ b)) ⊗ τ d) (to_moved a b c d) ∙ there_back (codes o L) (τ a) (τ b) (τ c) (τ d))

  code_still : (a c d : ℕ) → c < o.size → o.sum c (o.product (difference o a a) d) ≡ c
  code_still a c d h = to_injective o L _ c (L.sum_below _ _) h (to_moved a a c d ∙ nowhere (codes o L) (τ a) (τ c) (τ d))

  -- codes that a step leaves as they are
  each_stays : (f : ℕ → ℕ → ℕ) → ((c d : ℕ) → c < o.size → f c d ≡ c) → (mask strip : List ℕ) → all_below o.size strip ≡ true → length strip ≡ length mask
      → zip2 f strip mask ≡ strip
  each_stays f stays mask [] below e = refl
  each_stays f stays [] (c ∷ strip) below e = absurd (omega arith)
  each_stays f stays (d ∷ mask) (c ∷ strip) below e =
      let (here, rest) = below_parts o.size c strip below in
      ap₂ ◌∷◌ (stays c d here) (each_stays f stays mask strip rest (omega arith))

  -- moved there and back
  pub shifted_back : (a b : ℕ) (mask strip : List ℕ) → all_below o.size strip ≡ true → length strip ≡ length mask
      → shifted o (difference o a b) mask (shifted o (difference o b a) mask strip) ≡ strip
  shifted_back a b mask strip below e = in_one_step _ _ strip mask ∙ each_stays _ (code_back a b) mask strip below e

  -- moved by nothing
  pub shifted_still : (a : ℕ) (mask strip : List ℕ) → all_below o.size strip ≡ true → length strip ≡ length mask
      → shifted o (difference o a a) mask strip ≡ strip
  shifted_still a mask strip below e = each_stays _ (code_still a) mask strip below e
