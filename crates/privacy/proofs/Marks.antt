-- An accepted call leaves a slate with lists as long as before, and tidy. Assumes nothing.
use Rattle.std.proofs.Common.{◌≡◌, ℕ, ◌-◌, ◌<◌, ◌≤◌, true, ◌≢◌, length, set, Some, None, Option, sym, refl, ap, ◌∙◌, subst, ⊎_elim, arith}
use Rattle.std.proofs.lemmas.List.{length-set}
use Rattle.std.proofs.lemmas.Bool.{both_ways, cases_eq}
use Rattle.sharing.specs.Shares.{most_seats}
use Rattle.book.specs.Slates.{line_count, state_of, flag, with_line, with_hand, with_dealt, with_gathered}
use Rattle.book.specs.declared.slate.Hand.{Hand}
use Rattle.book.specs.declared.slate.Line.{Line}
use Rattle.book.specs.declared.slate.Line.TheVariants.{Empty, Awaited, Full}
use Rattle.book.specs.declared.slate.Slate.{Slate}
use Rattle.privacy.proofs.Accepted.{Begins, Gathers}
use Rattle.privacy.proofs.Links.{SlateShape, Tidy}
use Rattle.privacy.proofs.Reading.{state_same, state_other, flag_same, flag_other, flag_none, flag_of_all}

-- ---- lines of different states are different lines

pub full_not_empty : Full ≢ Empty
full_not_empty e = let z : ◌≡◌ {A = ℕ} 0 1 = cc in omega arith

pub awaited_not_empty : Awaited ≢ Empty
awaited_not_empty e = let z : ◌≡◌ {A = ℕ} 0 1 = cc in omega arith

pub full_not_awaited : Full ≢ Awaited
full_not_awaited e = let z : ◌≡◌ {A = ℕ} 0 1 = cc in omega arith

pub lines_differ : (s : Slate) (l m : Line) → l ≢ m → (r d : ℕ) → state_of s r ≡ l → state_of s d ≡ m → r ≢ d
lines_differ s l m ne r d p q e = ne (sym p ∙ ap (state_of s) e ∙ q)

-- a line that has another state than the one written was not written
pub read_back : (s : Slate) (d : ℕ) (l m : Line) → l ≢ m → d < length s.lines → (r : ℕ) → state_of (with_line s d l) r ≡ m → (r ≢ d) × (state_of s r ≡ m)
read_back s d l m ne within r p = (apart, sym (state_other s d l r apart) ∙ p)
  where
    apart : r ≢ d
    apart e = ne (sym (state_same s d l within) ∙ ap (state_of (with_line s d l)) (sym e) ∙ p)

pub some_hand : (h g : Hand) → ◌≡◌ {A = Option Hand} (Some h) (Some g) → h ≡ g
some_hand h g e = cc

pub no_hand : (h : Hand) → ◌≡◌ {A = Option Hand} None (Some h) → ⊥
no_hand h e = let z : ◌≡◌ {A = ℕ} 0 1 = cc in omega arith

-- ---- the lists stay as long as they are

module _ (n k : ℕ) (s : Slate) (shape : SlateShape n k s) where
  pub shape_line : (d : ℕ) (l : Line) → SlateShape n k (with_line s d l)
  shape_line d l = record {
    n_is = shape.n_is;
    k_is = shape.k_is;
    lines_long = length-set s.lines d l ∙ shape.lines_long;
    dealt_long = shape.dealt_long;
    gathered_long = shape.gathered_long;
  }

  pub shape_hand : (hand : Option Hand) → SlateShape n k (with_hand s hand)
  shape_hand hand = record { n_is = shape.n_is; k_is = shape.k_is; lines_long = shape.lines_long; dealt_long = refl; gathered_long = refl }

  pub shape_dealt : (seat : ℕ) → SlateShape n k (with_dealt s seat)
  shape_dealt seat = record {
    n_is = shape.n_is;
    k_is = shape.k_is;
    lines_long = shape.lines_long;
    dealt_long = length-set s.dealt (seat - 1) true ∙ shape.dealt_long;
    gathered_long = shape.gathered_long;
  }

  pub shape_gathered : (seat : ℕ) → SlateShape n k (with_gathered s seat)
  shape_gathered seat = record {
    n_is = shape.n_is;
    k_is = shape.k_is;
    lines_long = shape.lines_long;
    dealt_long = shape.dealt_long;
    gathered_long = length-set s.gathered (seat - 1) true ∙ shape.gathered_long;
  }

  -- ---- the slate stays tidy

  module _ (most : n ≤ most_seats) (tidy : Tidy s) where
    within_lines : (d : ℕ) → d < line_count → d < length s.lines
    within_lines d h = omega (arith, shape.lines_long)

    -- an empty line is filled
    pub tidy_full : (d : ℕ) → d < line_count → state_of s d ≡ Empty → Tidy (with_line s d Full)
    tidy_full d within empty = record {
      awaited_in_hand = λ h e.
          let (lt, awaited, a_full, b_full) = tidy.awaited_in_hand h e in (
            lt,
            kept Awaited awaited_not_empty h.destination awaited,
            kept Full full_not_empty h.a a_full,
            kept Full full_not_empty h.b b_full,
          );
      awaited_only = λ h e r p. tidy.awaited_only h e r (back r p);
      none_awaited = λ e r p. tidy.none_awaited e r (back r p);
      none_flagged = tidy.none_flagged;
      gathered_after = tidy.gathered_after;
      past_n = tidy.past_n;
    }
      where
        kept : (l : Line) → l ≢ Empty → (r : ℕ) → state_of s r ≡ l → state_of (with_line s d Full) r ≡ l
        kept l ne r p = state_other s d Full r (lines_differ s l Empty ne r d p empty) ∙ p

        back : (r : ℕ) → state_of (with_line s d Full) r ≡ Awaited → state_of s r ≡ Awaited
        back r p = (read_back s d Full Awaited full_not_awaited (within_lines d within) r p).1

    -- a product is begun
    pub tidy_begin : (d a b : ℕ) → Begins s d a b → Tidy (with_hand (with_line s d Awaited) (Some (record { destination = d; a = a; b = b })))
    tidy_begin d a b begins = record {
      awaited_in_hand = λ h e.
          subst
          (λ (g : Hand). (g.destination < line_count) × (state_of after g.destination ≡ Awaited) × (state_of after g.a ≡ Full) × (state_of after g.b ≡ Full))
          (some_hand hand h e)
          (begins.lines.within, state_same s d Awaited inside, kept a begins.lines.a_full, kept b begins.lines.b_full);
      awaited_only = λ h e r p.
          ⊎_elim (λ (q : r ≡ d). q ∙ ap (λ (g : Hand). g.destination) (some_hand hand h e))
          (λ (q : r ≢ d). absurd (tidy.none_awaited begins.none r (sym (state_other s d Awaited r q) ∙ p))) (cases_eq r d);
      none_awaited = λ e. absurd (no_hand hand (sym e));
      none_flagged = λ e. absurd (no_hand hand (sym e));
      gathered_after = λ i p. absurd (both_ways _ (flag_none i) p);
      past_n = λ j h. flag_none j;
    }
      where
        hand : Hand
        hand = record { destination = d; a = a; b = b }

        after : Slate
        after = with_line s d Awaited

        inside : d < length s.lines
        inside = within_lines d begins.lines.within

        kept : (r : ℕ) → state_of s r ≡ Full → state_of (with_line s d Awaited) r ≡ Full
        kept r p = state_other s d Awaited r (lines_differ s Full Empty full_not_empty r d p begins.lines.empty) ∙ p

    -- a seat deals
    pub tidy_dealt : (seat : ℕ) → 1 ≤ seat → seat ≤ s.n → (h : Hand) → s.hand ≡ Some h → Tidy (with_dealt s seat)
    tidy_dealt seat low high hand in_hand = record {
      awaited_in_hand = tidy.awaited_in_hand;
      awaited_only = tidy.awaited_only;
      none_awaited = tidy.none_awaited;
      none_flagged = λ e. absurd (no_hand hand (sym e ∙ in_hand));
      gathered_after = λ i p j low' high'.
          ⊎_elim (λ (q : j ≡ seat). ap (flag (set s.dealt (seat - 1) true)) q ∙ flag_same s.dealt seat low (omega (arith, shape)))
          (λ (q : j ≢ seat). flag_other s.dealt seat j low low' q ∙ tidy.gathered_after i p j low' high') (cases_eq j seat);
      past_n = λ j h. flag_other s.dealt seat j low (omega arith) (omega arith) ∙ tidy.past_n j h;
    }

    -- a seat gathers, and is not the last
    pub tidy_gathered : (seat : ℕ) → Gathers s seat → Tidy (with_gathered s seat)
    tidy_gathered seat gathers = record {
      awaited_in_hand = tidy.awaited_in_hand;
      awaited_only = tidy.awaited_only;
      none_awaited = tidy.none_awaited;
      none_flagged = λ e. absurd (no_hand gathers.hand (sym e ∙ gathers.in_hand));
      gathered_after = λ i p j low high. flag_of_all s.n s.dealt j low high (omega (arith, shape)) gathers.all_dealt;
      past_n = tidy.past_n;
    }

    -- the last seat gathers
    pub tidy_last : (h : Hand) → s.hand ≡ Some h → Tidy (with_hand (with_line s h.destination Full) None)
    tidy_last hand in_hand = record {
      awaited_in_hand = λ h e. absurd (no_hand h e);
      awaited_only = λ h e. absurd (no_hand h e);
      none_awaited = λ e r p.
          let (ne, old) = read_back s hand.destination Full Awaited full_not_awaited (within_lines hand.destination (tidy.awaited_in_hand hand in_hand).0) r p in
          ne (tidy.awaited_only hand in_hand r old);
      none_flagged = λ e. (refl, refl);
      gathered_after = λ i p. absurd (both_ways _ (flag_none i) p);
      past_n = λ j h. flag_none j;
    }
