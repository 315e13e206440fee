-- A polynomial's value at zero from its values at enough seats, each times its weight.
-- Assumes nothing.
use Rattle.std.proofs.Common.{◌≡◌, ℕ, suc, pred, ◌+◌, ◌≤◌, cond, eqb, ◌≢◌, List, [], ◌∷◌, map, length, sym, refl, ap, ◌∙◌, ap₂, arith}
use mathlib.Core.Path.{fun_ext}
use Rattle.std.proofs.lemmas.Bool.{cond-true, cond-false, eq-eqb, ne_eqb}
use Rattle.sharing.proofs.Ring.{Ring, Points}
use Rattle.sharing.proofs.RingLaws.{ring, units, sorted, zero_plus, plus_neg, plus_left, times_left, times_plus, one_times, times_assoc}
use Rattle.sharing.proofs.Polynomials.{eval, quotient, length_quotient, divide, mul, eval_mul, length_mul}

-- `s` does not stand in the list
abbrev pub NotIn : ℕ → List ℕ → Type 0
NotIn s [] = Unit {0}
NotIn s (t ∷ S) = (s ≢ t) × NotIn s S

module _ {C : Type 0} (R : Ring C) (P : Points R) where
  open R use {zero, one, plus as ◌⊕◌, neg, times as ◌⊗◌}
  open P use {last, point, recip}

  infixl 65 ◌⊕◌
  infixl 70 ◌⊗◌
  abbrev pub factor : ℕ → ℕ → C
  factor i j = cond (eqb i j) one (neg (point j) ⊗ recip i j)

  abbrev pub weight : List ℕ → ℕ → C
  weight [] i = one
  weight (j ∷ js) i = factor i j ⊗ weight js i

  abbrev pub combine : List C → List C → C
  combine [] cs = zero
  combine (w ∷ ws) [] = zero
  combine (w ∷ ws) (c ∷ cs) = w ⊗ c ⊕ combine ws cs

  -- the seats have points, and none stands twice
  abbrev pub Apart : List ℕ → Type 0
  Apart [] = Unit {0}
  Apart (s ∷ S) = (s ≤ last) × NotIn s S × Apart S

  -- the values of F at the seats T, each times its weight among S
  abbrev total : List ℕ → List ℕ → (ℕ → C) → C
  total S T F = combine (map (weight S) T) (map F T)

  sum_step : (w a b u v : C) → w ⊗ (a ⊕ b) ⊕ (u ⊕ v) ≡ (w ⊗ a ⊕ u) ⊕ (w ⊗ b ⊕ v)
  sum_step w a b u v = simp ring

  total_sum : (S T : List ℕ) (F G : ℕ → C) → total S T (λ i. F i ⊕ G i) ≡ total S T F ⊕ total S T G
  total_sum S [] F G = simp units
  total_sum S (i ∷ T) F G =
      ap (λ v. weight S i ⊗ (F i ⊕ G i) ⊕ v) (total_sum S T F G) ∙ sum_step (weight S i) (F i) (G i) (total S T F) (total S T G)

  -- the first two seats change places
  total_swap : (s t : ℕ) (T : List ℕ) (F : ℕ → C) → total (s ∷ t ∷ T) (s ∷ t ∷ T) F ≡ total (t ∷ s ∷ T) (t ∷ s ∷ T) F
  total_swap s t T F =
      ap (λ w. combine (map w (s ∷ t ∷ T)) (map F (s ∷ t ∷ T))) (fun_ext λ i. times_left R (factor i s) (factor i t) (weight T i))
      ∙ plus_left R _ _ _

  factor_same : (i : ℕ) → factor i i ≡ one
  factor_same i = cond-true _ _ _ (eq-eqb i i refl)

  factor_other : (i j : ℕ) → i ≢ j → factor i j ≡ neg (point j) ⊗ recip i j
  factor_other i j h = cond-false _ _ _ (ne_eqb i j h)

  head_step : (p r w d q : C) → d ⊗ r ≡ one → ((p ⊗ r) ⊗ w) ⊗ (d ⊗ q) ≡ p ⊗ (w ⊗ q)
  head_step p r w d q e = regroup ∙ ap (λ v. v ⊗ (p ⊗ (w ⊗ q))) e ∙ one_times R _
    where
      regroup : ((p ⊗ r) ⊗ w) ⊗ (d ⊗ q) ≡ (d ⊗ r) ⊗ (p ⊗ (w ⊗ q))
      regroup = simp sorted

  total_other : (s : ℕ) (S T : List ℕ) (Q : ℕ → C) → s ≤ last → NotIn s T → Apart T →
      total (s ∷ S) T (λ i. (point i ⊕ neg (point s)) ⊗ Q i) ≡ neg (point s) ⊗ total S T Q
  total_other s S [] Q hs out apart = sym (simp units)
  total_other s S (i ∷ T) Q hs out apart =
      let far : i ≢ s = λ e. out.0 (sym e) in
      let here = ap (λ v. (v ⊗ weight S i) ⊗ ((point i ⊕ neg (point s)) ⊗ Q i)) (factor_other i s far)
      ∙ head_step (neg (point s)) (recip i s) (weight S i) (point i ⊕ neg (point s)) (Q i) (P.gap i s apart.0 hs far) in
      ap₂ ◌⊕◌ here (total_other s S T Q hs out.1 apart.2) ∙ sym (times_plus R (neg (point s)) (weight S i ⊗ Q i) (total S T Q))

  none_step : (w p q v : C) → w ⊗ ((p ⊕ neg p) ⊗ q) ⊕ v ≡ v
  none_step w p q v = simp (plus_neg, units)

  -- a factor that is zero at the first seat takes that seat out
  total_head : (s : ℕ) (S : List ℕ) (Q : ℕ → C) → Apart (s ∷ S) →
      total (s ∷ S) (s ∷ S) (λ i. (point i ⊕ neg (point s)) ⊗ Q i) ≡ neg (point s) ⊗ total S S Q
  total_head s S Q apart = none_step (weight (s ∷ S) s) (point s) (Q s) _ ∙ total_other s S S Q apart.0 apart.1 apart.2

  one_step : (c : C) → (one ⊗ one) ⊗ c ⊕ zero ≡ c
  one_step c = simp units

  split_step : (x a b u : C) → (x ⊕ neg a) ⊗ u ⊕ (x ⊕ neg b) ⊗ neg u ≡ (b ⊕ neg a) ⊗ u
  split_step x a b u = simp ring

  join_step : (a b u : C) → neg a ⊗ u ⊕ neg b ⊗ neg u ≡ (b ⊕ neg a) ⊗ u
  join_step a b u = simp ring

  -- the weights add up to one
  total_const : (s : ℕ) (T : List ℕ) → Apart (s ∷ T) → (c : C) → total (s ∷ T) (s ∷ T) (λ i. c) ≡ c
  total_const s [] apart c = ap (λ v. (v ⊗ one) ⊗ c ⊕ zero) (factor_same s) ∙ one_step c
  total_const s (t ∷ T) apart c =
      let hs = apart.0 in
      let rest = apart.2 in
      let far : t ≢ s = λ e. apart.1.0 (sym e) in
      let u : C = recip t s ⊗ c in
      let whole : (point t ⊕ neg (point s)) ⊗ u ≡ c =
      sym (times_assoc R _ _ _) ∙ ap (λ v. v ⊗ c) (P.gap t s rest.0 hs far) ∙ one_times R c in
      let F : ℕ → C = λ i. (point i ⊕ neg (point s)) ⊗ u in
      let G : ℕ → C = λ i. (point i ⊕ neg (point t)) ⊗ neg u in
      ap (total (s ∷ t ∷ T) (s ∷ t ∷ T)) (fun_ext λ i. sym (split_step (point i) (point s) (point t) u ∙ whole))
      ∙ total_sum (s ∷ t ∷ T) (s ∷ t ∷ T) F G
      ∙ ap₂ ◌⊕◌
      (total_head s (t ∷ T) (λ i. u) apart ∙ ap (λ v. neg (point s) ⊗ v) (total_const t T rest u))
      (total_swap s t T G
      ∙ total_head t (s ∷ T) (λ i. neg u) (rest.0, (far, rest.1), (hs, apart.1.1, rest.2))
      ∙ ap (λ v. neg (point t) ⊗ v) (total_const s T (hs, apart.1.1, rest.2) (neg u)))
      ∙ join_step (point s) (point t) u
      ∙ whole

  -- the values at the seats S, each times its weight, add up to the value at zero
  pub lagrange : (S : List ℕ) (f : List C) → Apart S → length f ≤ length S →
      combine (map (weight S) S) (map (λ i. eval R f (point i)) S) ≡ eval R f zero
  lagrange [] [] apart h = refl
  lagrange [] (c ∷ g) apart h = absurd (omega arith)
  lagrange (s ∷ T) [] apart h = total_const s T apart zero
  lagrange (s ∷ T) (c ∷ g) apart h =
      let Q : List C = quotient R (point s) g in
      ap (total (s ∷ T) (s ∷ T)) (fun_ext λ i. divide R c g (point s) (point i))
      ∙ total_sum (s ∷ T) (s ∷ T) (λ i. eval R (c ∷ g) (point s)) (λ i. (point i ⊕ neg (point s)) ⊗ eval R Q (point i))
      ∙ ap₂ ◌⊕◌
      (total_const s T apart (eval R (c ∷ g) (point s)))
      (total_head s T (λ i. eval R Q (point i)) apart
      ∙ ap₂ ◌⊗◌ (sym (zero_plus R (neg (point s)))) (lagrange T Q apart.2 (simp length_quotient (omega arith))))
      ∙ sym (divide R c g (point s) zero)

  -- the value at zero of a product, from the products of the values
  pub lagrange_product : (S : List ℕ) (f g : List C) (k : ℕ) → Apart S → length f ≤ k → length g ≤ k → k + k ≤ suc (length S) →
      combine (map (weight S) S) (map (λ i. eval R f (point i) ⊗ eval R g (point i)) S) ≡ eval R f zero ⊗ eval R g zero
  lagrange_product S f g k apart hf hg room =
      ap (total S S) (fun_ext λ i. sym (eval_mul R f g (point i)))
      ∙ lagrange S (mul R f g) apart (omega (arith, length_mul R f g k (pred k) hf (omega arith)))
      ∙ eval_mul R f g zero
