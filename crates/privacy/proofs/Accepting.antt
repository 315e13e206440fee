-- When calls are accepted, and what the slate and the plain calculation see of them: of an outside call's strip no more
-- than its length. Assumes nothing.
use Rattle.std.proofs.Common.{◌≡◌, ℕ, ◌+◌, ◌<◌, true, false, not, eqb, leb, List, length, Some, None, Option, sym, refl, ap, ◌∙◌, ap₂}
use Rattle.std.proofs.lemmas.Bool.{not-false, eqb-true, leb-false, lt-leb}
use Rattle.kinds.specs.Kind.{Ops, Lawful}
use Rattle.sharing.specs.Rebuilding.{all_below}
use Rattle.sharing.specs.declared.refusal.Refusal.{Refusal}
use Rattle.sharing.specs.declared.refusal.Refusal.TheVariants.{NoLine, NotEmpty, NotFull, NoSeat, NotBelow, StripLength, StripCode, NoneInHand, Dealt}
use Rattle.book.specs.Calls.{Call, enter, deal, «open»}
use Rattle.book.specs.Secrets.{move}
use Rattle.book.specs.Slates.{cause, line_count, state_of, is_empty, is_full, no_seat, flag, why, why_strip, mark}
use Rattle.book.specs.States.{State, after}
use Rattle.book.specs.Values.{Values, reckon, reckoned}
use Rattle.book.specs.declared.slate.Hand.{Hand}
use Rattle.book.specs.declared.slate.Line.{Line}
use Rattle.book.specs.declared.slate.Line.TheVariants.{Empty, Awaited, Full}
use Rattle.book.specs.declared.slate.Slate.{Slate}
use Rattle.privacy.specs.Pairing.{Side, first, second, Item, alike, enters, deals, figure_in, call_in, Own}
use Rattle.privacy.specs.Runs.{slate_after}
use Rattle.privacy.proofs.Limits.{no_cause}
use Rattle.privacy.proofs.Linked.{Fit}

-- ---- what acceptance tells

-- a strip that is let through
pub record Passed (size : ℕ) (s : Slate) (strip : List ℕ) : Type 0 where
  pub long : length strip + 1 ≡ s.k
  pub below : all_below size strip ≡ true

strip_passed : (size : ℕ) (s : Slate) (strip : List ℕ) → why_strip s size strip ≡ None → Passed size s strip
strip_passed size s strip e =
    let (long, e1) = no_cause (not (eqb (length strip + 1) s.k)) StripLength _ e in
    let (below, _) = no_cause (not (all_below size strip)) StripCode None e1 in
    record { long = eqb-true (length strip + 1) s.k (not-false _ long); below = not-false _ below }

-- an accepted enter: the figure is below the size, and the strip is let through
pub enter_passed : (size : ℕ) (s : Slate) (line house figure : ℕ) (strip : List ℕ) → why size s (enter line house figure strip) ≡ None
    → (figure < size) × Passed size s strip
enter_passed size s line house figure strip e =
    let (_, e1) = no_cause (leb line_count line) NoLine _ e in
    let (_, e2) = no_cause (not (is_empty (state_of s line))) NotEmpty _ e1 in
    let (_, e3) = no_cause (no_seat s house) NoSeat _ e2 in
    let (small, e4) = no_cause (leb size figure) NotBelow _ e3 in
    (leb-false size figure small, strip_passed size s strip e4)

-- with no product in hand there is a refusal
in_hand : (hand : Option Hand) (rest : Option Refusal) → elim hand as (λ h. Option Refusal) [ Some h ↦ rest | None ↦ Some NoneInHand ] ≡ None → rest ≡ None
in_hand (Some h) rest e = e
in_hand None rest e = cc

-- an accepted deal: the strip is let through
pub deal_passed : (size : ℕ) (s : Slate) (seat : ℕ) (strip : List ℕ) → why size s (deal seat strip) ≡ None → Passed size s strip
deal_passed size s seat strip e =
    let (_, e1) = no_cause (no_seat s seat) NoSeat _ (in_hand s.hand _ e) in
    let (_, e2) = no_cause (flag s.dealt seat) Dealt _ e1 in
    strip_passed size s strip e2

full_only : (line : Line) → is_full line ≡ true → line ≡ Full
full_only Empty e = cc
full_only Awaited e = cc
full_only Full e = refl

-- an accepted open: the line is full
pub open_full : (size : ℕ) (s : Slate) (line room : ℕ) → why size s («open» line room) ≡ None → state_of s line ≡ Full
open_full size s line room e =
    let (_, e1) = no_cause (leb line_count line) NoLine _ e in
    let (full, _) = no_cause (not (is_full (state_of s line))) NotFull _ e1 in
    full_only (state_of s line) (not-false _ full)

-- ---- an answer decides what a call leaves

module _ (o : Ops) (t : State) (c : Call) where
  -- a refusal changes nothing
  pub refused_stays : (r : Refusal) → why o.size t.slate c ≡ Some r → after o t c ≡ t
  refused_stays r e =
      ap (λ x. elim x as (λ a. State) [ Some refusal ↦ t | None ↦ record { slate = mark t.slate c; secrets = move o t.slate c t.secrets } ]) e

  pub refused_values : (v : Values) (r : Refusal) → why o.size t.slate c ≡ Some r → reckoned o t.slate c v ≡ v
  refused_values v r e = ap (λ x. elim x as (λ a. Values) [ Some refusal ↦ v | None ↦ reckon o t.slate c v ]) e

  -- the slate goes its own way
  pub slate_of_after : (after o t c).slate ≡ slate_after o t.slate c
  slate_of_after = go (why o.size t.slate c)
    where
      go : (x : Option Refusal)
          → (elim x as (λ a. State) [ Some refusal ↦ t | None ↦ record { slate = mark t.slate c; secrets = move o t.slate c t.secrets } ]).slate
          ≡ elim x as (λ a. Slate) [ Some refusal ↦ t.slate | None ↦ mark t.slate c ]
      go (Some r) = refl
      go None = refl

-- ---- one item, along any two strips that fit it

module _ (o : Ops) (L : Lawful o) (n k : ℕ) (mask group : List ℕ) where
  figure_below : (side : Side) (line house f g m : ℕ) → Own o group (enters line house f g m) → figure_in side f g < o.size
  figure_below first line house f g m own = own.1
  figure_below second line house f g m own = own.2

  -- the slate answers the same, in either run
  module _ (s : Slate) where
    same_strip : (i : Item) (strip strip' : List ℕ) → Fit o L n k mask i strip → Fit o L n k mask i strip' → why_strip s o.size strip ≡ why_strip s o.size strip'
    same_strip i strip strip' fit fit' =
        ap₂ (λ m b. cause (not (eqb (m + 1) s.k)) StripLength (cause (not b) StripCode None)) (fit.long ∙ sym fit'.long) (fit.below ∙ sym fit'.below)

    pub same_why : (side side' : Side) (i : Item) → Own o group i → (strip strip' : List ℕ) → Fit o L n k mask i strip → Fit o L n k mask i strip'
        → why o.size s (call_in side i strip) ≡ why o.size s (call_in side' i strip')
    same_why side side' (alike c) own strip strip' fit fit' = refl
    same_why side side' (enters line house f g m) own strip strip' fit fit' =
        let small : (a : Side) → leb o.size (figure_in a f g) ≡ false = λ a. lt-leb o.size _ (figure_below a line house f g m own) in
        ap₂ (λ b rest. cause (leb line_count line) NoLine (cause (not (is_empty (state_of s line))) NotEmpty (cause (no_seat s house) NoSeat (cause b NotBelow rest))))
        (small side ∙ sym (small side')) (same_strip (enters line house f g m) strip strip' fit fit')
    same_why side side' (deals seat m) own strip strip' fit fit' =
        ap (λ rest. elim s.hand as (λ h. Option Refusal) [ Some h ↦ cause (no_seat s seat) NoSeat (cause (flag s.dealt seat) Dealt rest) | None ↦ Some NoneInHand ])
        (same_strip (deals seat m) strip strip' fit fit')

    same_mark : (side side' : Side) (i : Item) (strip strip' : List ℕ) → mark s (call_in side i strip) ≡ mark s (call_in side' i strip')
    same_mark side side' (alike c) strip strip' = refl
    same_mark side side' (enters line house f g m) strip strip' = refl
    same_mark side side' (deals seat m) strip strip' = refl

    -- and goes on the same
    pub same_slate_after : (side side' : Side) (i : Item) → Own o group i → (strip strip' : List ℕ) → Fit o L n k mask i strip → Fit o L n k mask i strip'
        → slate_after o s (call_in side i strip) ≡ slate_after o s (call_in side' i strip')
    same_slate_after side side' i own strip strip' fit fit' =
        ap₂ (λ x after. elim x as (λ a. Slate) [ Some refusal ↦ s | None ↦ after ]) (same_why side side' i own strip strip' fit fit') (same_mark side side' i strip strip')

    same_reckon : (side : Side) (i : Item) (strip strip' : List ℕ) (v : Values) → reckon o s (call_in side i strip) v ≡ reckon o s (call_in side i strip') v
    same_reckon side (alike c) strip strip' v = refl
    same_reckon side (enters line house f g m) strip strip' v = refl
    same_reckon side (deals seat m) strip strip' v = refl

    -- and so does the plain calculation, within a run
    pub same_reckoned : (side : Side) (i : Item) → Own o group i → (strip strip' : List ℕ) → Fit o L n k mask i strip → Fit o L n k mask i strip'
        → (v : Values) → reckoned o s (call_in side i strip) v ≡ reckoned o s (call_in side i strip') v
    same_reckoned side i own strip strip' fit fit' v =
        ap₂ (λ x after. elim x as (λ a. Values) [ Some refusal ↦ v | None ↦ after ]) (same_why side side i own strip strip' fit fit') (same_reckon side i strip strip' v)
