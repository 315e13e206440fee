-- A call of both runs, along paired strips, keeps two books with one slate linked. Assumes nothing.
use Rattle.std.proofs.Common.{◌≡◌, ℕ, ◌+◌, true, cond, List, length, Some, None, Option, sym, refl, ap, ◌∙◌, subst, ap₂}
use Rattle.kinds.specs.Kind.{Ops, Lawful, difference}
use Rattle.sharing.specs.Masks.{shifted}
use Rattle.sharing.specs.Rebuilding.{holds}
use Rattle.sharing.specs.Shares.{share_at}
use Rattle.sharing.specs.declared.refusal.Refusal.{Refusal}
use Rattle.book.specs.Calls.{Call, enter, sum, scale, begin, deal, gather, «open», show}
use Rattle.book.specs.Secrets.{by_seat, with_letters, dealt_product, gathered_in, move}
use Rattle.book.specs.Slates.{last_gather, with_dealt, gathered_by, why, mark}
use Rattle.book.specs.States.{State, after}
use Rattle.book.specs.Values.{Values, with_value, reckon, reckoned}
use Rattle.book.specs.declared.secrets.Secrets.{Secrets}
use Rattle.book.specs.declared.slate.Hand.{Hand}
use Rattle.book.specs.declared.slate.Slate.{Slate}
use Rattle.privacy.specs.Pairing.{Side, other, Item, alike, enters, deals, figure_in, call_in, Own, gap_between, paired_strip}
use Rattle.privacy.proofs.Accepted.{Deals, Gathers, accepted_enter, accepted_sum, accepted_scale, accepted_begin, accepted_deal, accepted_gather, some_not_none}
use Rattle.privacy.proofs.Causes.{figure_below, same_why}
use Rattle.privacy.proofs.Joint.{Joint, joint_moved, joint_alike, joint_sum, joint_scale, joint_hidden}
use Rattle.privacy.proofs.Links.{Within, Linked, Hidden, Fit}
use Rattle.privacy.proofs.Steps.{book, fills, begun, dealt, gathered}

-- the books that accepted calls of the two runs leave are linked
abbrev Kept : (o : Ops) → Lawful o → ℕ → ℕ → List ℕ → Slate → Secrets → Secrets → Values → Values → Call → Call → Type 0
Kept o L n k mask s x y v w c c' = Linked o L n k mask (book (mark s c) (move o s c x)) (book (mark s c') (move o s c' y)) (reckon o s c v) (reckon o s c' w)

-- an accepted call's strip is the moved one
moved_strip : (a : Option Refusal) (p q : List ℕ) → a ≡ None → ◌≡◌ {A = List ℕ} (elim a [ Some refusal ↦ p | None ↦ q ]) q
moved_strip (Some r) p q e = absurd (some_not_none r e)
moved_strip None p q e = refl

module _ (o : Ops) (L : Lawful o) (n k : ℕ) (mask : List ℕ) (limits : Within n k) where
  -- refused or accepted alike, linked books are left linked
  settled : {t u t' u' : State} {v w v' w' : Values} (a b : Option Refusal) → a ≡ b → Linked o L n k mask t u v w → (a ≡ None → Linked o L n k mask t' u' v' w')
      → Linked o L n k mask (elim a [ Some r ↦ t | None ↦ t' ]) (elim b [ Some r ↦ u | None ↦ u' ]) (elim a [ Some r ↦ v | None ↦ v' ]) (elim b [ Some r ↦ w | None ↦ w' ])
  settled (Some r) (Some q) e old new = old
  settled (Some r) None e old new = absurd (some_not_none r e)
  settled None (Some q) e old new = absurd (some_not_none q (sym e))
  settled None None e old new = new refl

  module _ (s : Slate) (x y : Secrets) (v w : Values) (link : Linked o L n k mask (book s x) (book s y) v w) where
    strip_long : (strip : List ℕ) → length strip + 1 ≡ s.k → length strip + 1 ≡ k
    strip_long strip e = e ∙ link.slate_shape.k_is

    deal_kept : (seat : ℕ) (strip strip' : List ℕ) (d : Deals o.size s seat strip)
        → let p : ℕ = dealt_product o x d.hand seat in
        let q : ℕ = dealt_product o y d.hand seat in
        Joint o L n k mask (share_at o p strip) (share_at o q strip') p q → Kept o L n k mask s x y v w (deal seat strip) (deal seat strip')
    deal_kept seat strip strip' d joint =
        subst
        (λ (hand : Option Hand). Linked o L n k mask
        (book (with_dealt s seat) (elim hand [ Some h ↦ with_letters x seat (by_seat s.n (share_at o (dealt_product o x h seat) strip)) | None ↦ x ]))
        (book (with_dealt s seat) (elim hand [ Some h ↦ with_letters y seat (by_seat s.n (share_at o (dealt_product o y h seat) strip')) | None ↦ y ])) v w)
        (sym d.in_hand) (dealt o L n k mask limits s x y v w link d.hand d.in_hand seat d.low d.high d.fresh _ _ joint)

    gather_kept : (seat : ℕ) → Gathers s seat → Kept o L n k mask s x y v w (gather seat) (gather seat)
    gather_kept seat g =
        subst
        (λ (hand : Option Hand). Linked o L n k mask
        (book (elim hand [ Some h ↦ gathered_by s h.destination seat | None ↦ s ]) (elim hand [ Some h ↦ gathered_in o s h x seat | None ↦ x ]))
        (book (elim hand [ Some h ↦ gathered_by s h.destination seat | None ↦ s ]) (elim hand [ Some h ↦ gathered_in o s h y seat | None ↦ y ]))
        (elim hand [ Some h ↦ cond (last_gather s seat) (with_value v h.destination (o.product (v h.a) (v h.b))) v | None ↦ v ])
        (elim hand [ Some h ↦ cond (last_gather s seat) (with_value w h.destination (o.product (w h.a) (w h.b))) w | None ↦ w ]))
        (sym g.in_hand) (gathered o L n k mask limits s x y v w link seat g (last_gather s seat) refl)

    module _ (mask_long : length mask + 1 ≡ k) (group : List ℕ) (hidden : Hidden o L n k mask group) (side : Side) where
      -- a seat of the group deals the same in both runs
      same_product : (seat : ℕ) → holds seat group ≡ true → (h : Hand) → s.hand ≡ Some h → dealt_product o x h seat ≡ dealt_product o y h seat
      same_product seat own h e =
          let (low, high, zero_at) = hidden seat own in
          let (lt, awaited, a_full, b_full) = link.tidy.awaited_in_hand h e in
          ap₂ o.product (joint_hidden o L n k mask (link.lines h.a a_full) seat low high zero_at)
          (joint_hidden o L n k mask (link.lines h.b b_full) seat low high zero_at)

      -- an accepted call keeps the books linked
      accepted : (i : Item) → Own o group i → (strip : List ℕ) → why o.size s (call_in side i strip) ≡ None
          → Kept o L n k mask s x y v w (call_in side i strip) (call_in (other side) i (paired_strip o mask side (book s x) (book s y) i strip))
      accepted (alike (enter line house figure along)) own strip e =
          let a = accepted_enter o.size s line house figure along e in
          fills o L n k mask limits s x y v w link line a.within a.empty _ _ figure figure
          (joint_alike o L n k mask figure along a.below (strip_long along a.strip_fits.long))
      accepted (alike (sum d a b)) own strip e =
          let fit = accepted_sum o.size s d a b e in
          fills o L n k mask limits s x y v w link d fit.within fit.empty _ _ _ _
          (joint_sum o L n k mask (link.lines a fit.a_full) (link.lines b fit.b_full))
      accepted (alike (scale d a c)) own strip e =
          let fit = accepted_scale o.size s d a c e in
          fills o L n k mask limits s x y v w link d fit.within fit.empty _ _ _ _ (joint_scale o L n k mask c (link.lines a fit.a_full))
      accepted (alike (begin d a b)) own strip e = begun o L n k mask limits s x y v w link d a b (accepted_begin o.size s d a b e)
      accepted (alike (deal seat along)) own strip e =
          let d = accepted_deal o.size s seat along e in
          let p : ℕ = dealt_product o x d.hand seat in
          deal_kept seat along along d
          (subst (λ (q : ℕ). Joint o L n k mask (share_at o p along) (share_at o q along) p q) (same_product seat own d.hand d.in_hand)
          (joint_alike o L n k mask p along (L.product_below _ _) (strip_long along d.strip_fits.long)))
      accepted (alike (gather seat)) own strip e = gather_kept seat (accepted_gather o.size s seat e)
      accepted (alike («open» line room)) own strip e = link
      accepted (alike (show seat room)) own strip e = link
      accepted (enters line house f g m) own strip e =
          let here : ℕ = figure_in side f g in
          let there : ℕ = figure_in (other side) f g in
          let a = accepted_enter o.size s line house here strip e in
          subst (λ (along : List ℕ). Kept o L n k mask s x y v w (enter line house here strip) (enter line house there along))
          (sym (moved_strip (why o.size s (enter line house here strip)) strip (shifted o (difference o there here) mask strip) e))
          (fills o L n k mask limits s x y v w link line a.within a.empty _ _ here there
          (joint_moved o L n k mask here there strip a.below (figure_below o.size (other side) f g own.1 own.2) (strip_long strip a.strip_fits.long) mask_long))
      accepted (deals seat m) own strip e =
          let d = accepted_deal o.size s seat strip e in
          let p : ℕ = dealt_product o x d.hand seat in
          let q : ℕ = dealt_product o y d.hand seat in
          let gap : ℕ = gap_between o side (book s x) (book s y) (deals seat m) in
          let gap_is : gap ≡ difference o q p =
          ap (λ (hand : Option Hand). elim hand [ Some h ↦ difference o (dealt_product o y h seat) (dealt_product o x h seat) | None ↦ 0 ]) d.in_hand in
          subst (λ (along : List ℕ). Kept o L n k mask s x y v w (deal seat strip) (deal seat along))
          (sym (moved_strip (why o.size s (deal seat strip)) strip (shifted o gap mask strip) e ∙ ap (λ (by : ℕ). shifted o by mask strip) gap_is))
          (deal_kept seat strip (shifted o (difference o q p) mask strip) d
          (joint_moved o L n k mask p q strip (L.product_below _ _) (L.product_below _ _) (strip_long strip d.strip_fits.long) mask_long))

      -- a call, refused or not, keeps the books linked
      pub stepped : (i : Item) → Own o group i → (strip : List ℕ) → Fit o L n k mask i strip
          → let c : Call = call_in side i strip in
          let c' : Call = call_in (other side) i (paired_strip o mask side (book s x) (book s y) i strip) in
          Linked o L n k mask (after o (book s x) c) (after o (book s y) c') (reckoned o s c v) (reckoned o s c' w)
      stepped i own strip fit =
          settled (why o.size s (call_in side i strip)) (why o.size s (call_in (other side) i (paired_strip o mask side (book s x) (book s y) i strip)))
          (same_why o L n k mask mask_long group side s x y link.slate_shape.k_is i own strip fit) link (accepted i own strip)
