-- What rebuilding fits, in the ring of codes: the rounds leave zeros just where it answers, and the answer is their constant.
-- Assumes nothing.
use Rattle.std.proofs.Common.{◌≡◌, ℕ, suc, ◌<◌, ◌≤◌, Bool, true, false, cond, List, [], ◌∷◌, map, length, Some, None, Option, sym, refl, ap, ◌∙◌, ap₂, arith}
use Rattle.std.specs.Option.{option_map}
use Rattle.std.proofs.lemmas.Bool.{cond-true}
use Rattle.kinds.specs.Kind.{Ops, Lawful, difference}
use Rattle.sharing.specs.Rebuilding.{divided, all_below, all_zero, fitted}
use Rattle.sharing.proofs.Ring.{Ring, Points}
use Rattle.sharing.proofs.Newton.{leftover, constant, Zeros}
use Rattle.sharing.proofs.Newton
use Rattle.sharing.proofs.Codes.{Code, to, codes, places, below_parts, below_from, to_injective, to_zero, to_point, to_reciprocal, to_product, to_difference}

some_of_cond : (b : Bool) (c d : ℕ) → cond b (Some c) None ≡ Some d → (b ≡ true) × (c ≡ d)
some_of_cond true c d e = (refl, cc)
some_of_cond false c d e = (cc, cc)

-- an answer that was mapped comes from one that was not
some_of_mapped : (f : ℕ → ℕ) (x : Option ℕ) (c : ℕ) → option_map f x ≡ Some c → (b : ℕ) × (x ≡ Some b) × (f b ≡ c)
some_of_mapped f None c e = (0, cc, cc)
some_of_mapped f (Some b) c e = (b, refl, cc)

module _ (o : Ops) (L : Lawful o) where
  abbrev C : Type 0
  C = Code o

  abbrev R : Ring C
  R = codes o L

  abbrev P : Points R
  P = places o L

  abbrev τ : ℕ → C
  τ = to o L

  open R use {zero, plus as ◌⊕◌, neg, times as ◌⊗◌}
  open P use {point}

  infixl 65 ◌⊕◌
  infixl 70 ◌⊗◌
  -- the values of the quotient
  pub to_divided : (s y : ℕ) (seats ys : List ℕ) → map τ (divided o s y seats ys) ≡ Newton.divided R P s (τ y) seats (map τ ys)
  to_divided s y [] ys = refl
  to_divided s y (t ∷ seats) [] = refl
  to_divided s y (t ∷ seats) (z ∷ ys) =
      ap₂ ◌∷◌
      (to_product o L (difference o z y) (o.reciprocal t s) ∙ ap₂ ◌⊗◌ (to_difference o L z y) (to_reciprocal o L t s))
      (to_divided s y seats ys)

  pub divided_below : (s y : ℕ) (seats ys : List ℕ) → all_below o.size (divided o s y seats ys) ≡ true
  divided_below s y [] ys = refl
  divided_below s y (t ∷ seats) [] = refl
  divided_below s y (t ∷ seats) (z ∷ ys) =
      below_from o.size _ (divided o s y seats ys) (L.product_below (difference o z y) (o.reciprocal t s)) (divided_below s y seats ys)

  pub length_divided : (s y : ℕ) (seats ys : List ℕ) → length ys ≡ length seats → length (divided o s y seats ys) ≡ length seats
  length_divided s y [] ys e = refl
  length_divided s y (t ∷ seats) [] e = absurd (omega arith)
  length_divided s y (t ∷ seats) (z ∷ ys) e = ap suc (length_divided s y seats ys (omega arith))

  zeros_from : (ys : List ℕ) → all_zero ys ≡ true → Zeros R P (map τ ys)
  zeros_from [] h = tt
  zeros_from (y ∷ ys) h =
      let (here, rest) = below_parts 1 y ys h in
      let none : y ≡ 0 = omega arith in
      (ap τ none ∙ to_zero o L, zeros_from ys rest)

  zeros_to : (ys : List ℕ) → all_below o.size ys ≡ true → Zeros R P (map τ ys) → all_zero ys ≡ true
  zeros_to [] h z = refl
  zeros_to (y ∷ ys) h z =
      let (here, rest) = below_parts o.size y ys h in
      let none : y ≡ 0 = to_injective o L y 0 here (omega (arith, L.size_low)) (z.0 ∙ sym (to_zero o L)) in
      below_from 1 y ys (omega arith) (zeros_to ys rest z.1)

  -- the constant, from that of the quotient
  abbrev step : ℕ → ℕ → ℕ → ℕ
  step s y c = difference o y (o.product (o.point s) c)

  to_step : (s y c : ℕ) → τ (step s y c) ≡ τ y ⊕ neg (point s ⊗ τ c)
  to_step s y c =
      to_difference o L y (o.product (o.point s) c)
      ∙ ap (λ v. τ y ⊕ neg v) (to_product o L (o.point s) c ∙ ap (λ v. v ⊗ τ c) (to_point o L s))

  -- where rebuilding answers, the rounds leave zeros, and the answer is their constant
  pub fitted_some : (k : ℕ) (seats ys : List ℕ) (c : ℕ) → fitted o k seats ys ≡ Some c →
      Zeros R P (leftover R P k seats (map τ ys)) × (τ c ≡ constant R P k seats (map τ ys)) × (c < o.size)
  fitted_some ℕ.zero seats ys c e =
      let (all, none) = some_of_cond (all_zero ys) 0 c e in
      (zeros_from ys all, ap τ (sym none) ∙ to_zero o L, omega (arith, L.size_low))
  fitted_some (suc k) [] ys c e = let z : ◌≡◌ {A = ℕ} 0 1 = cc in absurd (omega arith)
  fitted_some (suc k) (s ∷ seats) [] c e = let z : ◌≡◌ {A = ℕ} 0 1 = cc in absurd (omega arith)
  fitted_some (suc k) (s ∷ seats) (y ∷ ys) c e =
      let (b, found, made) = some_of_mapped (step s y) (fitted o k seats (divided o s y seats ys)) c e in
      let (left, first, low) = fitted_some k seats (divided o s y seats ys) b found in
      let same = to_divided s y seats ys in (
        rw same at left,
        ap τ (sym made) ∙ to_step s y b ∙ ap (λ v. τ y ⊕ neg (point s ⊗ v)) (first ∙ ap (constant R P k seats) same),
        omega (arith, made, L.sum_below y (o.negative (o.product (o.point s) b))),
      )

  -- where the rounds leave zeros, rebuilding answers
  pub fitted_found : (k : ℕ) (seats ys : List ℕ) → all_below o.size ys ≡ true → length ys ≡ length seats → k ≤ length seats →
      Zeros R P (leftover R P k seats (map τ ys)) → (c : ℕ) × (fitted o k seats ys ≡ Some c)
  fitted_found ℕ.zero seats ys h e room z = (0, cond-true _ _ _ (zeros_to ys h z))
  fitted_found (suc k) [] ys h e room z = absurd (omega arith)
  fitted_found (suc k) (s ∷ seats) [] h e room z = absurd (omega arith)
  fitted_found (suc k) (s ∷ seats) (y ∷ ys) h e room z =
      let (b, found) =
      fitted_found k seats (divided o s y seats ys) (divided_below s y seats ys) (length_divided s y seats ys (omega arith)) (omega arith)
      (rw (to_divided s y seats ys) z) in
      (step s y b, ap (option_map (step s y)) found)
