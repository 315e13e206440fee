-- Totals are plain: a single run is the case of two equal runs, with the empty group. So along every run the shares of
-- a full line lie on a polynomial whose constant is the line's value. Assumes nothing.
use Rattle.std.proofs.Common.{◌≡◌, ℕ, ◌+◌, ◌-◌, ◌≤◌, true, List, [], ◌∷◌, map, length, replicate, Some, None, Ok, Err, Option, Result, sym, refl, ap, ◌∙◌, subst, subst₂, arith}
use lib.ListN.{length-replicate}
use Rattle.std.proofs.lemmas.Bool.{false≢true}
use Rattle.kinds.specs.Kind.{Ops, Lawful}
use Rattle.sharing.specs.Rebuilding.{apart, rebuilt}
use Rattle.sharing.specs.declared.refusal.Refusal.{Refusal}
use Rattle.book.specs.Calls.{Call, enter, sum, scale, begin, deal, gather, «open», show}
use Rattle.book.specs.Secrets.{share_held, total_of}
use Rattle.book.specs.Slates.{why, state_of}
use Rattle.book.specs.States.{State, set_book, after, answer, number_of}
use Rattle.book.specs.Values.{Values, no_values, reckoned}
use Rattle.book.specs.declared.slate.Line.TheVariants.{Full}
use Rattle.privacy.specs.Pairing.{first, second, Item, alike, enters, deals, call_in, Own, paired_strip}
use Rattle.privacy.specs.Runs.{run, values_after}
use Rattle.privacy.specs.Totals.{SeatsOf, TotalsAreValues, SharesRebuildValues}
use Rattle.privacy.proofs.Accepting.{enter_passed, deal_passed, open_full, refused_stays, refused_values}
use Rattle.privacy.proofs.Joint.{joint_total, joint_rebuild}
use Rattle.privacy.proofs.Limits.{within}
use Rattle.privacy.proofs.Linked.{Within, Linked, Hidden, Fit, linked_start, linked_step}
use Rattle.privacy.proofs.Seating.{seats_at_most}
use Rattle.privacy.proofs.Strips.{amount, paired_still}

module _ (o : Ops) (L : Lawful o) (n k : ℕ) (limits : Within n k) where
  -- a mask for the empty group
  abbrev mask : List ℕ
  mask = replicate (k - 1) 0

  mask_long : length mask + 1 ≡ k
  mask_long = omega (arith, length-replicate {A = ℕ} (k - 1) 0, limits.k_low)

  none_hidden : Hidden o L n k mask []
  none_hidden s h = absurd (false≢true h)

  -- a book that is linked with itself
  abbrev Sound : State → Values → Type 0
  Sound t v = Linked o L n k mask t t v v

  -- a call keeps it so: each case of the call
  abbrev Kept : State → Values → Call → Type 0
  Kept t v c = Sound (after o t c) (reckoned o t.slate c v)

  module _ (t : State) (v : Values) (link : Sound t v) where
    stays : (c : Call) (r : Refusal) → why o.size t.slate c ≡ Some r → Kept t v c
    stays c r e = subst₂ (λ a b. Sound a b) (sym (refused_stays o t c r e)) (sym (refused_values o t c v r e)) link

    -- an item that both runs take alike
    takes : (i : Item) → Own o [] i → (strip : List ℕ) → Fit o L n k mask i strip → amount o second t i ≡ amount o first t i
        → call_in second i strip ≡ call_in first i strip → Kept t v (call_in first i strip)
    takes i own strip fit level same =
        let still : paired_strip o mask first t t i strip ≡ strip = paired_still o L n k mask mask_long first t t refl link.slate_shape.k_is i strip fit level in
        subst (λ c. Linked o L n k mask (after o t (call_in first i strip)) (after o t c) (reckoned o t.slate (call_in first i strip) v) (reckoned o t.slate c v))
        (ap (call_in second i) still ∙ same) (linked_step o L n k mask limits mask_long [] none_hidden first t t v v link i own strip fit)

    both : (c : Call) → Own o [] (alike c) → Kept t v c
    both c own = takes (alike c) own [] (record { long = refl; below = refl }) refl refl

    kept_enter : (line house figure : ℕ) (strip : List ℕ) (x : Option Refusal) → why o.size t.slate (enter line house figure strip) ≡ x
        → Kept t v (enter line house figure strip)
    kept_enter line house figure strip (Some r) e = stays (enter line house figure strip) r e
    kept_enter line house figure strip None e =
        let (small, passed) = enter_passed o.size t.slate line house figure strip e in
        takes (enters line house figure figure (length strip)) (refl, small, small) strip (record { long = refl; below = passed.below }) refl refl

    kept_deal : (seat : ℕ) (strip : List ℕ) (x : Option Refusal) → why o.size t.slate (deal seat strip) ≡ x → Kept t v (deal seat strip)
    kept_deal seat strip (Some r) e = stays (deal seat strip) r e
    kept_deal seat strip None e =
        let passed = deal_passed o.size t.slate seat strip e in
        takes (deals seat (length strip)) refl strip (record { long = refl; below = passed.below }) refl refl

    kept : (c : Call) → Kept t v c
    kept (enter line house figure strip) = kept_enter line house figure strip _ refl
    kept (sum d a b) = both (sum d a b) tt
    kept (scale d a c) = both (scale d a c) tt
    kept (begin d a b) = both (begin d a b) tt
    kept (deal seat strip) = kept_deal seat strip _ refl
    kept (gather seat) = both (gather seat) tt
    kept («open» line room) = both («open» line room) tt
    kept (show seat room) = both (show seat room) tt

  -- and so does every run
  kept_run : (calls : List Call) (t : State) (v : Values) → Sound t v → Sound (run o t calls) (values_after o t v calls)
  kept_run [] t v link = link
  kept_run (c ∷ calls) t v link = kept_run calls (after o t c) (reckoned o t.slate c v) (kept t v link c)

  -- the shares of a full line, and its value
  module _ (t : State) (v : Values) (link : Sound t v) where
    held_total : (line room : ℕ) → why o.size t.slate («open» line room) ≡ None → answer o t («open» line room) ≡ Ok (v line)
    held_total line room e =
        ap (λ x. elim x as (λ a. Result ℕ Refusal) [ Some refusal ↦ Err refusal | None ↦ Ok (number_of o t («open» line room)) ]) e
        ∙ ap (λ m. Ok (total_of o m t.secrets line)) link.slate_shape.n_is
        ∙ ap Ok (joint_total o L n k mask limits.n_high (omega arith) (link.lines line (open_full o.size t.slate line room e)))

    held_rebuild : (line : ℕ) (seats : List ℕ) → state_of t.slate line ≡ Full → SeatsOf n seats → apart seats ≡ true → k ≤ length seats
        → rebuilt o k seats (map (λ i. share_held t.secrets i line) seats) ≡ Ok (v line)
    held_rebuild line seats full of_n separate enough =
        joint_rebuild o L n k mask (link.lines line full) limits.k_low limits.k_high seats limits.n_high of_n separate enough
        (omega (arith, seats_at_most n seats of_n separate))

-- the book as set leaves it is linked with itself
begins : (o : Ops) (L : Lawful o) (n k : ℕ) (limits : Within n k) → Sound o L n k limits (set_book n k) no_values
begins o L n k limits = linked_start o L n k (mask o L n k limits) limits

-- the promise Totals-are-values
pub totals_are_values : TotalsAreValues
totals_are_values o L n k set calls line room e =
    let limits = within n k set in
    held_total o L n k limits _ _ (kept_run o L n k limits calls (set_book n k) no_values (begins o L n k limits)) line room e

-- the promise Shares-rebuild-values
pub shares_rebuild_values : SharesRebuildValues
shares_rebuild_values o L n k set calls line seats full of_n separate enough =
    let limits = within n k set in
    held_rebuild o L n k limits _ _ (kept_run o L n k limits calls (set_book n k) no_values (begins o L n k limits)) line seats full of_n separate enough
