-- The strip of the other run: it fits its item too, and its own partner is the first strip again. Assumes nothing.
use Rattle.std.proofs.Common.{◌≡◌, ℕ, ◌+◌, List, length, Some, None, Option, sym, refl, ap, ◌∙◌, subst, ap₂, arith}
use Rattle.kinds.specs.Kind.{Ops, Lawful, difference}
use Rattle.sharing.specs.Masks.{shifted}
use Rattle.sharing.specs.declared.refusal.Refusal.{Refusal}
use Rattle.sharing.specs.declared.refusal.Refusal.TheVariants.{Unset}
use Rattle.sharing.proofs.Crossing.{shifted_below}
use Rattle.book.specs.Secrets.{dealt_product}
use Rattle.book.specs.Slates.{why}
use Rattle.book.specs.States.{State}
use Rattle.book.specs.declared.slate.Hand.{Hand}
use Rattle.book.specs.declared.slate.Slate.{Slate}
use Rattle.privacy.specs.Pairing.{Side, first, second, other, Item, alike, enters, deals, figure_in, call_in, Own, gap_between, paired_strip}
use Rattle.privacy.proofs.Accepting.{enter_passed, deal_passed, same_why}
use Rattle.privacy.proofs.Linked.{Fit}
use Rattle.privacy.proofs.Moving.{length_shifted, shifted_back, shifted_still}

-- the other run's other run
pub other_other : (side : Side) → other (other side) ≡ side
other_other first = refl
other_other second = refl

-- the answer to an outside call; no strip of a call that is alike is moved, as if it were refused
abbrev verdict : Ops → Side → Slate → Item → List ℕ → Option Refusal
verdict o side s (alike c) strip = Some Unset
verdict o side s (enters line house f g m) strip = why o.size s (call_in side (enters line house f g m) strip)
verdict o side s (deals seat m) strip = why o.size s (call_in side (deals seat m) strip)

-- what a run shares along the strip
abbrev pub amount : Ops → Side → State → Item → ℕ
amount o side t (alike c) = 0
amount o side t (enters line house f g m) = figure_in side f g
amount o side t (deals seat m) = elim t.slate.hand [ Some h ↦ dealt_product o t.secrets h seat | None ↦ 0 ]

module _ (o : Ops) (L : Lawful o) (n k : ℕ) (mask : List ℕ) (mask_long : length mask + 1 ≡ k) where
  -- a strip, moved where there is no refusal
  abbrev moved : Option Refusal → ℕ → List ℕ → List ℕ
  moved x by strip = elim x [ Some refusal ↦ strip | None ↦ shifted o by mask strip ]

  abbrev Fits : Item → List ℕ → Type 0
  Fits = Fit o L n k mask

  module _ (i : Item) (strip : List ℕ) (fit : Fits i strip) where
    moved_fits : (x : Option Refusal) (by : ℕ) → (x ≡ None → length strip ≡ length mask) → Fits i (moved x by strip)
    moved_fits (Some r) by long = fit
    moved_fits None by long =
        record { long = length_shifted o by mask strip (long refl) ∙ fit.long; below = shifted_below o L by mask strip }

    moved_back : (x : Option Refusal) (a b : ℕ) → (x ≡ None → length strip ≡ length mask) → moved x (difference o a b) (moved x (difference o b a) strip) ≡ strip
    moved_back (Some r) a b long = refl
    moved_back None a b long = shifted_back o L a b mask strip fit.below (long refl)

    moved_still : (x : Option Refusal) (a : ℕ) → (x ≡ None → length strip ≡ length mask) → moved x (difference o a a) strip ≡ strip
    moved_still (Some r) a long = refl
    moved_still None a long = shifted_still o L a mask strip fit.below (long refl)

  accepted_long : (s : Slate) → s.k ≡ k → (side : Side) (i : Item) (strip : List ℕ) → verdict o side s i strip ≡ None → length strip ≡ length mask
  accepted_long s e side (alike c) strip h = cc
  accepted_long s e side (enters line house f g m) strip h = omega (arith, (enter_passed o.size s line house (figure_in side f g) strip h).1.long)
  accepted_long s e side (deals seat m) strip h = omega (arith, (deal_passed o.size s seat strip h).long)

  no_gap : 0 ≡ difference o 0 0
  no_gap = sym (L.sum_negative 0 (omega (arith, L.size_low)))

  module _ (side : Side) (t u : State) (same : t.slate ≡ u.slate) (k_is : t.slate.k ≡ k) where
    -- the gap lies between the two amounts
    dealt_gap : (seat : ℕ) (hand : Option Hand)
        → elim hand as (λ a. ℕ) [ Some h ↦ difference o (dealt_product o u.secrets h seat) (dealt_product o t.secrets h seat) | None ↦ 0 ]
        ≡ difference o (elim hand as (λ a. ℕ) [ Some h ↦ dealt_product o u.secrets h seat | None ↦ 0 ])
        (elim hand as (λ a. ℕ) [ Some h ↦ dealt_product o t.secrets h seat | None ↦ 0 ])
    dealt_gap seat (Some h) = refl
    dealt_gap seat None = no_gap

    gap_is : (i : Item) → gap_between o side t u i ≡ difference o (amount o (other side) u i) (amount o side t i)
    gap_is (alike c) = no_gap
    gap_is (enters line house f g m) = refl
    gap_is (deals seat m) =
        dealt_gap seat t.slate.hand
        ∙ ap (λ s. difference o (elim s.hand as (λ a. ℕ) [ Some h ↦ dealt_product o u.secrets h seat | None ↦ 0 ]) (amount o side t (deals seat m))) same

    by_verdict : (i : Item) (strip : List ℕ) → paired_strip o mask side t u i strip ≡ moved (verdict o side t.slate i strip) (gap_between o side t u i) strip
    by_verdict (alike c) strip = refl
    by_verdict (enters line house f g m) strip = refl
    by_verdict (deals seat m) strip = refl

    pub paired_is : (i : Item) (strip : List ℕ)
        → paired_strip o mask side t u i strip ≡ moved (verdict o side t.slate i strip) (difference o (amount o (other side) u i) (amount o side t i)) strip
    paired_is i strip = by_verdict i strip ∙ ap (λ by. moved (verdict o side t.slate i strip) by strip) (gap_is i)

    -- the partner fits
    pub paired_fits : (i : Item) (strip : List ℕ) → Fits i strip → Fits i (paired_strip o mask side t u i strip)
    paired_fits i strip fit =
        subst (Fits i) (sym (paired_is i strip)) (moved_fits i strip fit (verdict o side t.slate i strip) _ (accepted_long t.slate k_is side i strip))

    -- where both runs share the same amount, the strip stays
    pub paired_still : (i : Item) (strip : List ℕ) → Fits i strip → amount o (other side) u i ≡ amount o side t i → paired_strip o mask side t u i strip ≡ strip
    paired_still i strip fit level =
        paired_is i strip ∙ ap (λ b. moved (verdict o side t.slate i strip) (difference o b (amount o side t i)) strip) level
        ∙ moved_still i strip fit (verdict o side t.slate i strip) _ (accepted_long t.slate k_is side i strip)

  module _ (group : List ℕ) where
    same_verdict : (s : Slate) (side side' : Side) (i : Item) → Own o group i → (strip strip' : List ℕ) → Fits i strip → Fits i strip'
        → verdict o side s i strip ≡ verdict o side' s i strip'
    same_verdict s side side' (alike c) own strip strip' fit fit' = refl
    same_verdict s side side' (enters line house f g m) own strip strip' fit fit' = same_why o L n k mask group s side side' (enters line house f g m) own strip strip' fit fit'
    same_verdict s side side' (deals seat m) own strip strip' fit fit' = same_why o L n k mask group s side side' (deals seat m) own strip strip' fit fit'

    -- the partner's partner is the strip
    pub paired_back : (side : Side) (t u : State) → t.slate ≡ u.slate → t.slate.k ≡ k → (i : Item) → Own o group i
        → (strip : List ℕ) → Fits i strip → paired_strip o mask (other side) u t i (paired_strip o mask side t u i strip) ≡ strip
    paired_back side t u same k_is i own strip fit =
        let there : List ℕ = paired_strip o mask side t u i strip in
        let fit' : Fits i there = paired_fits side t u same k_is i strip fit in
        let x : Option Refusal = verdict o side t.slate i strip in
        paired_is (other side) u t (sym same) (ap (λ s. s.k) (sym same) ∙ k_is) i there
        ∙ ap₂ (λ y a. moved y (difference o a (amount o (other side) u i)) there)
        (ap (λ s. verdict o (other side) s i there) (sym same) ∙ same_verdict t.slate (other side) side i own there strip fit' fit)
        (ap (λ a. amount o a t i) (other_other side))
        ∙ ap (moved x (difference o (amount o side t i) (amount o (other side) u i))) (paired_is side t u same k_is i strip)
        ∙ moved_back i strip fit x _ _ (accepted_long t.slate k_is side i strip)
