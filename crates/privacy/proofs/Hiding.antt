-- A group of fewer than k seats learns nothing: along paired strips the two books stay linked, the partner of a choice
-- is a choice, its own partner is the choice again, and the group sees the same in both runs. Assumes nothing.
use Rattle.std.proofs.Common.{◌≡◌, ℕ, zero, suc, ◌+◌, ◌-◌, ◌<◌, true, List, [], ◌∷◌, length, replicate, sym, refl, ap, ◌∙◌, ap₂, arith}
use mathlib.Core.Path.{subst₃}
use lib.ListN.{length-replicate}
use Rattle.kinds.specs.Kind.{Ops, Lawful}
use Rattle.sharing.specs.Masks.{mask_of}
use Rattle.sharing.specs.Rebuilding.{all_below}
use Rattle.sharing.proofs.Codes.{below_from}
use Rattle.sharing.proofs.Crossing.{length_mask_of}
use Rattle.book.specs.States.{State, set_book, after}
use Rattle.book.specs.Values.{Values, no_values, reckoned}
use Rattle.book.specs.declared.slate.Slate.{Slate}
use Rattle.privacy.specs.Pairing.{Side, first, second, other, Item, alike, enters, deals, strip_length, call_in, calls_in, Choice, AllOwn, paired_strip, paired}
use Rattle.privacy.specs.Privacy.{plain_call, OpensLevel, Level, GroupLearnsNothing}
use Rattle.privacy.specs.Runs.{sights}
use Rattle.privacy.proofs.Accepting.{slate_of_after, same_slate_after, same_reckoned}
use Rattle.privacy.proofs.Joint.{mask_hides}
use Rattle.privacy.proofs.Limits.{within}
use Rattle.privacy.proofs.Linked.{Within, Linked, Hidden, Fit, linked_start, linked_step, same_sight}
use Rattle.privacy.proofs.Strips.{other_other, paired_fits, paired_back}

-- codes of zero are below every size
zeros_below : (size m : ℕ) → 0 < size → all_below size (replicate m 0) ≡ true
zeros_below size zero h = refl
zeros_below size (suc m) h = below_from size 0 (replicate m 0) h (zeros_below size m h)

module _ (o : Ops) (L : Lawful o) (n k : ℕ) (mask : List ℕ) (limits : Within n k) (mask_long : length mask + 1 ≡ k) (group : List ℕ) (hidden : Hidden o L n k mask group) where
  abbrev Links : State → State → Values → Values → Type 0
  Links = Linked o L n k mask

  abbrev Fits : Item → List ℕ → Type 0
  Fits = Fit o L n k mask

  -- ---- the partner of a choice

  module _ (side : Side) where
    -- the partner of a choice is a choice, and its own partner is the choice again
    pub partner : (items : List Item) → AllOwn o group items → (t u : State) (v w : Values) → Links t u v w → (strips : List (List ℕ)) → Choice o items strips
        → Choice o items (paired o mask side t u items strips) × (paired o mask (other side) u t items (paired o mask side t u items strips) ≡ strips)
    partner [] own t u v w link [] choice = (tt, refl)
    partner [] own t u v w link (strip ∷ strips) choice = absurd choice
    partner (i ∷ items) own t u v w link [] choice = absurd choice
    partner (i ∷ items) own t u v w link (strip ∷ strips) choice =
        let fit : Fits i strip = record { long = choice.0; below = choice.1 } in
        let there : List ℕ = paired_strip o mask side t u i strip in
        let fit' : Fits i there = paired_fits o L n k mask mask_long side t u link.same_slate link.slate_shape.k_is i strip fit in
        let t' : State = after o t (call_in side i strip) in
        let u' : State = after o u (call_in (other side) i there) in
        let step = linked_step o L n k mask limits mask_long group hidden side t u v w link i own.0 strip fit in
        let (again, back) = partner items own.1 t' u' _ _ step strips choice.2 in (
          (fit'.long, fit'.below, again),
          ap₂ (λ b a. b ∷ paired o mask (other side) u' (after o t (call_in a i b)) items (paired o mask side t' u' items strips))
              (paired_back o L n k mask mask_long group side t u link.same_slate link.slate_shape.k_is i own.0 strip fit)
              (other_other side)
              ∙ ap (λ rest. strip ∷ rest) back,
        )

  -- ---- what the group sees

  -- only a call that is alike in both runs can be an open
  opens_along : (s : Slate) (v w : Values) (i : Item) (strip : List ℕ) → OpensLevel o s v w (plain_call first i) → OpensLevel o s v w (call_in first i strip)
  opens_along s v w (alike c) strip level = level
  opens_along s v w (enters line house f g m) strip level = tt
  opens_along s v w (deals seat m) strip level = tt

  zeros_fit : (i : Item) → Fits i (replicate (strip_length i) 0)
  zeros_fit i = record { long = length-replicate (strip_length i) 0; below = zeros_below o.size (strip_length i) (omega (arith, L.size_low)) }

  -- paired choices show the group the same, where opens meet equal values
  pub sees : (items : List Item) → AllOwn o group items → (t u : State) (v w : Values) → Links t u v w → Level o t.slate v w items
      → (strips : List (List ℕ)) → Choice o items strips
      → sights o group t (calls_in first items strips) ≡ sights o group u (calls_in second items (paired o mask first t u items strips))
  sees [] own t u v w link level [] choice = refl
  sees [] own t u v w link level (strip ∷ strips) choice = absurd choice
  sees (i ∷ items) own t u v w link level [] choice = absurd choice
  sees (i ∷ items) own t u v w link level (strip ∷ strips) choice =
      let fit : Fits i strip = record { long = choice.0; below = choice.1 } in
      let there : List ℕ = paired_strip o mask first t u i strip in
      let fit' : Fits i there = paired_fits o L n k mask mask_long first t u link.same_slate link.slate_shape.k_is i strip fit in
      let zeros : List ℕ = replicate (strip_length i) 0 in
      let rest =
      subst₃ (λ s a b. Level o s a b items)
      (same_slate_after o L n k mask group t.slate first first i own.0 zeros strip (zeros_fit i) fit ∙ sym (slate_of_after o t (call_in first i strip)))
      (same_reckoned o L n k mask group t.slate first i own.0 zeros strip (zeros_fit i) fit v)
      (same_reckoned o L n k mask group t.slate second i own.0 zeros there (zeros_fit i) fit' w
      ∙ ap (λ s. reckoned o s (call_in second i there) w) link.same_slate)
      level.1 in
      ap₂ ◌∷◌
      (same_sight o L n k mask limits mask_long group hidden first t u v w link i own.0 strip fit (opens_along t.slate v w i strip level.0))
      (sees items own.1 (after o t (call_in first i strip)) (after o u (call_in second i there)) _ _
      (linked_step o L n k mask limits mask_long group hidden first t u v w link i own.0 strip fit) rest strips choice.2)

-- the promise Group-learns-nothing
pub group_learns_nothing : GroupLearnsNothing
group_learns_nothing o L n k set group few of_n items own level =
    let limits = within n k set in
    let mask : List ℕ = mask_of o group (k - 1) in
    let book : State = set_book n k in
    let long : length mask + 1 ≡ k = omega (arith, length_mask_of o L group (k - 1), limits) in
    let hidden : Hidden o L n k mask group = mask_hides o L n k group limits.n_high few of_n in
    let start = linked_start o L n k mask limits in
    let pairs = λ (side : Side) (strips : List (List ℕ)) (choice : Choice o items strips).
    partner o L n k mask limits long group hidden side items own book book no_values no_values start strips choice in
    record {
      there = λ strips choice. (pairs first strips choice).0;
      back = λ strips choice. (pairs second strips choice).0;
      back_there = λ strips choice. (pairs first strips choice).1;
      there_back = λ strips choice. (pairs second strips choice).1;
      same_sights = λ strips choice. sees o L n k mask limits long group hidden items own book book no_values no_values start level strips choice;
    }
