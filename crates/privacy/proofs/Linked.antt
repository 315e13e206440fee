-- Two books stay linked over the calls of two paired runs, and the group sees the same of both.
-- Assumes nothing.
use Rattle.std.proofs.Common.{◌≡◌, ℕ, ◌+◌, List, [], map, length, sym, refl, ap, ◌∙◌, subst}
use Rattle.std.proofs.lemmas.List.{get_or-replicate}
use Rattle.std.proofs.lemmas.Bool.{both_ways}
use Rattle.kinds.specs.Kind.{Ops, Lawful}
use Rattle.sharing.specs.Shares.{most_seats}
use Rattle.book.specs.Secrets.{nothing_held, no_codes, shown}
use Rattle.book.specs.Slates.{line_count, state_of, fresh}
use Rattle.book.specs.States.{State, set_book, after, answer}
use Rattle.book.specs.Values.{Values, no_values, reckoned}
use Rattle.book.specs.declared.secrets.Secrets.{Secrets}
use Rattle.book.specs.declared.slate.Line.TheVariants.{Empty}
use Rattle.book.specs.declared.slate.Slate.{Slate}
use Rattle.privacy.specs.Pairing.{Side, other, Item, call_in, Own, paired_strip}
use Rattle.privacy.specs.Privacy.{OpensLevel}
use Rattle.privacy.specs.Runs.{open_list, sight}
use Rattle.privacy.proofs.Causes.{same_why}
use Rattle.privacy.proofs.Joint.{joint_swap}
use Rattle.privacy.proofs.Marks.{full_not_empty, awaited_not_empty, no_hand}
use Rattle.privacy.proofs.Moves.{stepped}
use Rattle.privacy.proofs.Reading.{getD_one, flag_none}
use Rattle.privacy.proofs.Sights.{group_same, shown_same, listed_same, answer_same}
use Rattle.privacy.proofs.Steps.{book}
pub use Rattle.privacy.proofs.Links.{Within, SlateShape, SecretsShape, Tidy, Linked, Hidden, Fit}

-- in a book as set leaves it each line is empty
start_empty : (n k r : ℕ) → state_of (fresh n k) r ≡ Empty
start_empty n k r = getD_one line_count r Empty

start_shape : SecretsShape nothing_held
start_shape = record {
  shares_long = refl;
  rows_long = λ r h. ap length (get_or-replicate line_count r no_codes [] h);
  letters_long = refl;
  letter_rows_long = λ s h. ap length (get_or-replicate most_seats s no_codes [] h);
}

start_tidy : (n k : ℕ) → Tidy (fresh n k)
start_tidy n k = record {
  awaited_in_hand = λ h e. absurd (no_hand h e);
  awaited_only = λ h e. absurd (no_hand h e);
  none_awaited = λ e r p. awaited_not_empty (sym p ∙ start_empty n k r);
  none_flagged = λ e. (refl, refl);
  gathered_after = λ i p. absurd (both_ways _ (flag_none i) p);
  past_n = λ j h. flag_none j;
}

module _ (o : Ops) (L : Lawful o) (n k : ℕ) (mask : List ℕ) where
  -- what holds of linked books with one slate holds of linked books
  one_slate : (v w : Values) (P : State → State → Type 0) → ((s : Slate) (x y : Secrets) → Linked o L n k mask (book s x) (book s y) v w → P (book s x) (book s y))
      → (t u : State) → Linked o L n k mask t u v w → P t u
  one_slate v w P over t u link =
      subst (λ (s : Slate). Linked o L n k mask t (book s u.secrets) v w → P t (book s u.secrets)) link.same_slate
      (over t.slate t.secrets u.secrets) link

  -- the books as set leaves them are linked
  pub linked_start : Within n k → Linked o L n k mask (set_book n k) (set_book n k) no_values no_values
  linked_start limits = record {
    same_slate = refl;
    slate_shape = record { n_is = refl; k_is = refl; lines_long = refl; dealt_long = refl; gathered_long = refl };
    shape = start_shape;
    other_shape = start_shape;
    tidy = start_tidy n k;
    lines = λ r p. absurd (full_not_empty (sym p ∙ start_empty n k r));
    letters = λ h e. absurd (no_hand h e);
    gathers = λ h e. absurd (no_hand h e);
  }

  -- linked either way round
  pub linked_swap : (t u : State) (v w : Values) → Linked o L n k mask t u v w → Linked o L n k mask u t w v
  linked_swap t u v w link = one_slate v w (λ a b. Linked o L n k mask b a w v) swapped t u link
    where
      swapped : (s : Slate) (x y : Secrets) → Linked o L n k mask (book s x) (book s y) v w → Linked o L n k mask (book s y) (book s x) w v
      swapped s x y l = record {
        same_slate = refl;
        slate_shape = l.slate_shape;
        shape = l.other_shape;
        other_shape = l.shape;
        tidy = l.tidy;
        lines = λ r p. joint_swap o L n k mask (l.lines r p);
        letters = λ h e q low high p. joint_swap o L n k mask (l.letters h e q low high p);
        gathers = λ h e i low high p. let (here, there) = l.gathers h e i low high p in (there, here);
      }

  module _ (limits : Within n k) (mask_long : length mask + 1 ≡ k) (group : List ℕ) (hidden : Hidden o L n k mask group) (side : Side) where
    -- a call of both runs, along paired strips, keeps the books linked
    pub linked_step : (t u : State) (v w : Values) → Linked o L n k mask t u v w → (i : Item) → Own o group i → (strip : List ℕ) → Fit o L n k mask i strip
        → Linked o L n k mask (after o t (call_in side i strip)) (after o u (call_in (other side) i (paired_strip o mask side t u i strip)))
        (reckoned o t.slate (call_in side i strip) v) (reckoned o u.slate (call_in (other side) i (paired_strip o mask side t u i strip)) w)
    linked_step t u v w link i own strip fit =
        one_slate v w
        (λ a b. Linked o L n k mask (after o a (call_in side i strip)) (after o b (call_in (other side) i (paired_strip o mask side a b i strip)))
        (reckoned o a.slate (call_in side i strip) v) (reckoned o b.slate (call_in (other side) i (paired_strip o mask side a b i strip)) w))
        (λ s x y l. stepped o L n k mask limits s x y v w l mask_long group hidden side i own strip fit) t u link

    -- linked books show the same to the group
    entries_same : (t u : State) (v w : Values) → Linked o L n k mask t u v w → map (shown t.slate t.secrets) group ≡ map (shown u.slate u.secrets) group
    entries_same t u v w link =
        one_slate v w (λ a b. map (shown a.slate a.secrets) group ≡ map (shown b.slate b.secrets) group)
        (λ s x y l. group_same (shown s x) (shown s y) group
        (λ seat own. let (low, high, zero_at) = hidden seat own in shown_same o L n k mask s x y v w l seat low high zero_at))
        t u link

    -- and the group sees the same of it, where an accepted open meets equal values
    pub same_sight : (t u : State) (v w : Values) → Linked o L n k mask t u v w → (i : Item) → Own o group i → (strip : List ℕ) → Fit o L n k mask i strip
        → OpensLevel o t.slate v w (call_in side i strip)
        → sight o group t (call_in side i strip) ≡ sight o group u (call_in (other side) i (paired_strip o mask side t u i strip))
    same_sight t u v w link i own strip fit level =
        one_slate v w
        (λ a b. OpensLevel o a.slate v w (call_in side i strip) → sight o group a (call_in side i strip) ≡ sight o group b (call_in (other side) i (paired_strip o mask side a b i strip)))
        over t u link level
      where
        over : (s : Slate) (x y : Secrets) → Linked o L n k mask (book s x) (book s y) v w → OpensLevel o s v w (call_in side i strip)
            → sight o group (book s x) (call_in side i strip) ≡ sight o group (book s y) (call_in (other side) i (paired_strip o mask side (book s x) (book s y) i strip))
        over s x y l level' =
            let there : List ℕ = paired_strip o mask side (book s x) (book s y) i strip in
            let answers : answer o (book s x) (call_in side i strip) ≡ answer o (book s y) (call_in (other side) i there) =
            answer_same o L n k mask s x y v w l side i strip there level' (same_why o L n k mask mask_long group side s x y l.slate_shape.k_is i own strip fit) in
            let lists : open_list o (book s x) (call_in side i strip) ≡ open_list o (book s y) (call_in (other side) i there) =
            listed_same o L n k mask s x y v w l side i strip there level' in
            let entries = entries_same (after o (book s x) (call_in side i strip)) (after o (book s y) (call_in (other side) i there)) _ _
            (linked_step (book s x) (book s y) v w l i own strip fit) in
            λ j. record { answered = answers j; listed = lists j; entries = entries j }
