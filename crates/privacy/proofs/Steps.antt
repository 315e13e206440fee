-- What an accepted call does to two books with one slate: they stay linked. Here are the kinds of change: a line is
-- filled, a product is begun, a seat deals, a seat gathers. Assumes nothing.
use Rattle.std.proofs.Common.{◌≡◌, ℕ, ◌-◌, ◌<◌, ◌≤◌, Bool, true, false, cond, ◌≢◌, List, [], length, get_or, set, Some, None, sym, refl, ap, ◌∙◌, subst, subst₂, ⊎_elim, arith}
use Rattle.std.proofs.lemmas.List.{length-set}
use Rattle.std.proofs.lemmas.Bool.{both_ways, cases_eq}
use Rattle.kinds.specs.Kind.{Ops, Lawful}
use Rattle.sharing.specs.Shares.{most_seats}
use Rattle.book.specs.Secrets.{by_seat, share_held, letter_held, with_shares, with_letters, without_letters, dealt_product, gathered_share}
use Rattle.book.specs.Slates.{line_count, state_of, flag, last_gather, with_line, with_hand, with_dealt, with_gathered}
use Rattle.book.specs.States.{State}
use Rattle.book.specs.Values.{Values, with_value}
use Rattle.book.specs.declared.secrets.Secrets.{Secrets}
use Rattle.book.specs.declared.slate.Hand.{Hand}
use Rattle.book.specs.declared.slate.Line.TheVariants.{Empty, Awaited, Full}
use Rattle.book.specs.declared.slate.Slate.{Slate}
use Rattle.privacy.proofs.Accepted.{Begins, Gathers}
use Rattle.privacy.proofs.Joint.{Joint, joint_cong, joint_gather}
use Rattle.privacy.proofs.Links.{Within, SecretsShape, Linked}
use Rattle.privacy.proofs.Marks.{full_not_empty, awaited_not_empty, full_not_awaited, lines_differ, read_back, some_hand, no_hand, shape_line, shape_hand, shape_dealt, shape_gathered, tidy_full, tidy_begin, tidy_dealt, tidy_gathered, tidy_last}
use Rattle.privacy.proofs.Reading.{at_by_seat, share_same, share_other, letter_same, letter_other, product_other, cell_same, cell_other, shape_shares, shape_letters, shape_cleared, value_same, value_other, state_other, flag_other, flag_none, flag_of_all}

-- a book by its slate and its secrets
abbrev pub book : Slate → Secrets → State
book s x = record { slate = s; secrets = x }

-- the secrets with one more gathered share
abbrev pub held : Ops → Slate → Hand → Secrets → ℕ → Secrets
held o s h x seat = with_shares x h.destination (set (get_or x.shares h.destination []) (seat - 1) (gathered_share o s.n x seat))

-- after a seat's gather, each seat that has gathered holds what its letters weigh
held_gathers : (o : Ops) (s : Slate) (h : Hand) (x : Secrets) (seat : ℕ) → SecretsShape x → h.destination < line_count → 1 ≤ seat → seat ≤ most_seats
    → ((i : ℕ) → 1 ≤ i → i ≤ s.n → flag s.gathered i ≡ true → share_held x i h.destination ≡ gathered_share o s.n x i)
    → (i : ℕ) → 1 ≤ i → i ≤ s.n → flag (set s.gathered (seat - 1) true) i ≡ true
    → share_held (held o s h x seat) i h.destination ≡ gathered_share o s.n x i
held_gathers o s h x seat shape within low high old i low' high' p =
    share_same x h.destination (set row (seat - 1) share) i (omega (arith, shape.shares_long))
    ∙ ⊎_elim (λ (e : i ≡ seat). subst (λ (j : ℕ). get_or (set row (seat - 1) share) (j - 1) 0 ≡ gathered_share o s.n x j) (sym e) (cell_same row seat share low room))
    (λ (ne : i ≢ seat). cell_other row seat share i low low' ne ∙ old i low' high' (sym (flag_other s.gathered seat i low low' ne) ∙ p)) (cases_eq i seat)
  where
    row : List ℕ
    row = get_or x.shares h.destination []

    share : ℕ
    share = gathered_share o s.n x seat

    room : seat ≤ length row
    room = omega (arith, shape.rows_long h.destination within)

module _ (o : Ops) (L : Lawful o) (n k : ℕ) (mask : List ℕ) (limits : Within n k) where
  -- equal shares and equal values give the same predicate
  joint_same : {x y x' y' : ℕ → ℕ} {v w v' w' : ℕ} → ((i : ℕ) → 1 ≤ i → i ≤ n → x' i ≡ x i) → ((i : ℕ) → 1 ≤ i → i ≤ n → y' i ≡ y i) → v' ≡ v → w' ≡ w
      → Joint o L n k mask x y v w → Joint o L n k mask x' y' v' w'
  joint_same {x} {y} {x'} {y'} ex ey ev ew joint =
      subst₂ (λ (a b : ℕ). Joint o L n k mask x' y' a b) (sym ev) (sym ew) (joint_cong o L n k mask ex ey joint)

  module _ (s : Slate) (x y : Secrets) (v w : Values) (link : Linked o L n k mask (book s x) (book s y) v w) where
    seat_within : (i : ℕ) → i ≤ n → i ≤ s.n
    seat_within i h = omega (arith, link.slate_shape.n_is)

    few : s.n ≤ most_seats
    few = omega (arith, link.slate_shape.n_is, limits.n_high)

    -- an empty line is filled with shares that are linked
    pub fills : (d : ℕ) → d < line_count → state_of s d ≡ Empty → (f g : ℕ → ℕ) (a b : ℕ) → Joint o L n k mask f g a b
        → Linked o L n k mask (book (with_line s d Full) (with_shares x d (by_seat s.n f))) (book (with_line s d Full) (with_shares y d (by_seat s.n g)))
        (with_value v d a) (with_value w d b)
    fills d within empty f g a b joint = record {
      same_slate = refl;
      slate_shape = shape_line n k s link.slate_shape d Full;
      shape = shape_shares x link.shape d (by_seat s.n f) within refl;
      other_shape = shape_shares y link.other_shape d (by_seat s.n g) within refl;
      tidy = tidy_full n k s link.slate_shape limits.n_high link.tidy d within empty;
      lines = λ r p. ⊎_elim (λ (e : r ≡ d). subst At (sym e) here) (λ (ne : r ≢ d). elsewhere r ne (sym (state_other s d Full r ne) ∙ p)) (cases_eq r d);
      letters = λ h e q low high p.
          joint_same (λ i l m. refl) (λ i l m. refl) (product_other o x d (by_seat s.n f) h (a_apart h e) (b_apart h e) q)
          (product_other o y d (by_seat s.n g) h (a_apart h e) (b_apart h e) q) (link.letters h e q low high p);
      gathers = λ h e i low high p.
          let (here, there) = link.gathers h e i low high p in
          (share_other x d (by_seat s.n f) i h.destination (apart h e) ∙ here, share_other y d (by_seat s.n g) i h.destination (apart h e) ∙ there);
    }
      where
        At : ℕ → Type 0
        At r = Joint o L n k mask (λ i. share_held (with_shares x d (by_seat s.n f)) i r) (λ i. share_held (with_shares y d (by_seat s.n g)) i r) (with_value v d a r) (with_value w d b r)

        written : (z : Secrets) → SecretsShape z → (f' : ℕ → ℕ) (i : ℕ) → 1 ≤ i → i ≤ n → share_held (with_shares z d (by_seat s.n f')) i d ≡ f' i
        written z shape f' i low high =
            share_same z d (by_seat s.n f') i (omega (arith, shape.shares_long)) ∙ at_by_seat s.n f' i low (seat_within i high) few

        here : At d
        here = joint_same (written x link.shape f) (written y link.other_shape g) (value_same v d a) (value_same w d b) joint

        elsewhere : (r : ℕ) → r ≢ d → state_of s r ≡ Full → At r
        elsewhere r ne p =
            joint_same (λ i l m. share_other x d (by_seat s.n f) i r ne) (λ i l m. share_other y d (by_seat s.n g) i r ne) (value_other v d a r ne)
            (value_other w d b r ne) (link.lines r p)

        a_apart : (h : Hand) → s.hand ≡ Some h → h.a ≢ d
        a_apart h e = lines_differ s Full Empty full_not_empty h.a d (link.tidy.awaited_in_hand h e).2 empty

        b_apart : (h : Hand) → s.hand ≡ Some h → h.b ≢ d
        b_apart h e = lines_differ s Full Empty full_not_empty h.b d (link.tidy.awaited_in_hand h e).3 empty

        apart : (h : Hand) → s.hand ≡ Some h → h.destination ≢ d
        apart h e = lines_differ s Awaited Empty awaited_not_empty h.destination d (link.tidy.awaited_in_hand h e).1 empty

    -- a product is begun
    pub begun : (d a b : ℕ) → Begins s d a b
        → let after : Slate = with_hand (with_line s d Awaited) (Some (record { destination = d; a = a; b = b })) in
        Linked o L n k mask (book after x) (book after y) v w
    begun d a b begins = record {
      same_slate = refl;
      slate_shape = shape_hand n k (with_line s d Awaited) (shape_line n k s link.slate_shape d Awaited) (Some (record { destination = d; a = a; b = b }));
      shape = link.shape;
      other_shape = link.other_shape;
      tidy = tidy_begin n k s link.slate_shape limits.n_high link.tidy d a b begins;
      lines = λ r p. link.lines r (read_back s d Awaited Full (λ e. full_not_awaited (sym e)) inside r p).1;
      letters = λ h e q low high p. absurd (both_ways _ (flag_none q) p);
      gathers = λ h e i low high p. absurd (both_ways _ (flag_none i) p);
    }
      where
        inside : d < length s.lines
        inside = omega (arith, link.slate_shape.lines_long, begins.lines.within)

    -- a seat deals letters that are linked
    pub dealt : (h : Hand) → s.hand ≡ Some h → (seat : ℕ) → 1 ≤ seat → seat ≤ s.n → flag s.dealt seat ≡ false
        → (f g : ℕ → ℕ) → Joint o L n k mask f g (dealt_product o x h seat) (dealt_product o y h seat)
        → Linked o L n k mask (book (with_dealt s seat) (with_letters x seat (by_seat s.n f))) (book (with_dealt s seat) (with_letters y seat (by_seat s.n g))) v w
    dealt hand in_hand seat low high fresh f g joint = record {
      same_slate = refl;
      slate_shape = shape_dealt n k s link.slate_shape seat;
      shape = shape_letters x link.shape seat (by_seat s.n f) low most refl;
      other_shape = shape_letters y link.other_shape seat (by_seat s.n g) low most refl;
      tidy = tidy_dealt n k s link.slate_shape limits.n_high link.tidy seat low high hand in_hand;
      lines = link.lines;
      letters = λ h e q low' high' p.
          ⊎_elim (λ (i : q ≡ seat). subst₂ At (some_hand hand h (sym in_hand ∙ e)) (sym i) here)
          (λ (ne : q ≢ seat).
          joint_same (λ i l m. letter_other x seat (by_seat s.n f) i q low low' ne) (λ i l m. letter_other y seat (by_seat s.n g) i q low low' ne) refl refl
          (link.letters h e q low' high' (sym (flag_other s.dealt seat q low low' ne) ∙ p)))
          (cases_eq q seat);
      gathers = λ h e i low' high' p. absurd (both_ways _ fresh (link.tidy.gathered_after i p seat low high));
    }
      where
        most : seat ≤ most_seats
        most = omega (arith, few)

        At : Hand → ℕ → Type 0
        At h q = Joint o L n k mask (λ i. letter_held (with_letters x seat (by_seat s.n f)) i q) (λ i. letter_held (with_letters y seat (by_seat s.n g)) i q) (dealt_product o x h q) (dealt_product o y h q)

        written : (z : Secrets) → SecretsShape z → (f' : ℕ → ℕ) (i : ℕ) → 1 ≤ i → i ≤ n → letter_held (with_letters z seat (by_seat s.n f')) i seat ≡ f' i
        written z shape f' i low' high' =
            letter_same z seat (by_seat s.n f') i low (omega (arith, shape.letters_long, most)) ∙ at_by_seat s.n f' i low' (seat_within i high') few

        here : At hand seat
        here = joint_same (written x link.shape f) (written y link.other_shape g) refl refl joint

    module _ (seat : ℕ) (g : Gathers s seat) where
      facts : (g.hand.destination < line_count) × (state_of s g.hand.destination ≡ Awaited) × (state_of s g.hand.a ≡ Full) × (state_of s g.hand.b ≡ Full)
      facts = link.tidy.awaited_in_hand g.hand g.in_hand

      -- a full line is not the destination
      apart : (r : ℕ) → state_of s r ≡ Full → r ≢ g.hand.destination
      apart r p = lines_differ s Full Awaited full_not_awaited r g.hand.destination p facts.1

      held_shape : (z : Secrets) → SecretsShape z → SecretsShape (held o s g.hand z seat)
      held_shape z shape =
          shape_shares z shape g.hand.destination _ facts.0 (length-set (get_or z.shares g.hand.destination []) (seat - 1) _ ∙ shape.rows_long g.hand.destination facts.0)

      held_same : (z : Secrets) → SecretsShape z
          → ((i : ℕ) → 1 ≤ i → i ≤ n → flag s.gathered i ≡ true → share_held z i g.hand.destination ≡ gathered_share o n z i)
          → (i : ℕ) → 1 ≤ i → i ≤ n → flag (set s.gathered (seat - 1) true) i ≡ true
          → share_held (held o s g.hand z seat) i g.hand.destination ≡ gathered_share o n z i
      held_same z shape old i low high p =
          held_gathers o s g.hand z seat shape facts.0 g.low (omega (arith, few, g.high))
          (λ j low' high' q. old j low' (omega (arith, link.slate_shape.n_is)) q ∙ ap (λ (m : ℕ). gathered_share o m z j) (sym link.slate_shape.n_is))
          i low (seat_within i high) p
          ∙ ap (λ (m : ℕ). gathered_share o m z i) link.slate_shape.n_is

      first_gathers : (i : ℕ) → 1 ≤ i → i ≤ n → flag (set s.gathered (seat - 1) true) i ≡ true
          → share_held (held o s g.hand x seat) i g.hand.destination ≡ gathered_share o n x i
      first_gathers = held_same x link.shape (λ j l m q. (link.gathers g.hand g.in_hand j l m q).0)

      second_gathers : (i : ℕ) → 1 ≤ i → i ≤ n → flag (set s.gathered (seat - 1) true) i ≡ true
          → share_held (held o s g.hand y seat) i g.hand.destination ≡ gathered_share o n y i
      second_gathers = held_same y link.other_shape (λ j l m q. (link.gathers g.hand g.in_hand j l m q).1)

      -- a full line's shares stay as they are
      line_kept : (r : ℕ) → state_of s r ≡ Full
          → Joint o L n k mask (λ i. share_held (held o s g.hand x seat) i r) (λ i. share_held (held o s g.hand y seat) i r) (v r) (w r)
      line_kept r p =
          joint_cong o L n k mask (λ i l m. share_other x g.hand.destination _ i r (apart r p)) (λ i l m. share_other y g.hand.destination _ i r (apart r p))
          (link.lines r p)

      -- a seat gathers, and is not the last
      gathered_more : Linked o L n k mask (book (with_gathered s seat) (held o s g.hand x seat)) (book (with_gathered s seat) (held o s g.hand y seat)) v w
      gathered_more = record {
        same_slate = refl;
        slate_shape = shape_gathered n k s link.slate_shape seat;
        shape = held_shape x link.shape;
        other_shape = held_shape y link.other_shape;
        tidy = tidy_gathered n k s link.slate_shape limits.n_high link.tidy seat g;
        lines = line_kept;
        letters = λ h e q low high p.
            let (lt, awaited, a_full, b_full) = link.tidy.awaited_in_hand h e in
            joint_same (λ i l m. refl) (λ i l m. refl)
            (product_other o x g.hand.destination _ h (apart h.a a_full) (apart h.b b_full) q)
            (product_other o y g.hand.destination _ h (apart h.a a_full) (apart h.b b_full) q) (link.letters h e q low high p);
        gathers = λ h e. subst Gathered (some_hand g.hand h (sym g.in_hand ∙ e)) (λ i low high p. (first_gathers i low high p, second_gathers i low high p));
      }
        where
          Gathered : Hand → Type 0
          Gathered h = (i : ℕ) → 1 ≤ i → i ≤ n → flag (set s.gathered (seat - 1) true) i ≡ true
              → (share_held (held o s g.hand x seat) i h.destination ≡ gathered_share o n x i) × (share_held (held o s g.hand y seat) i h.destination ≡ gathered_share o n y i)

      -- the last seat gathers: the destination is full, and its value is the product
      gathered_last : last_gather s seat ≡ true
          → let after : Slate = with_hand (with_line s g.hand.destination Full) None in
          Linked o L n k mask (book after (without_letters (held o s g.hand x seat))) (book after (without_letters (held o s g.hand y seat)))
          (with_value v g.hand.destination (o.product (v g.hand.a) (v g.hand.b))) (with_value w g.hand.destination (o.product (w g.hand.a) (w g.hand.b)))
      gathered_last last = record {
        same_slate = refl;
        slate_shape = shape_hand n k (with_line s to Full) (shape_line n k s link.slate_shape to Full) None;
        shape = shape_cleared (held o s g.hand x seat) (held_shape x link.shape);
        other_shape = shape_cleared (held o s g.hand y seat) (held_shape y link.other_shape);
        tidy = tidy_last n k s link.slate_shape limits.n_high link.tidy g.hand g.in_hand;
        lines = λ r p.
            ⊎_elim (λ (e : r ≡ to). subst At (sym e) (joint_same (λ i l m. refl) (λ i l m. refl) (value_same v to va) (value_same w to wa) here))
            (λ (ne : r ≢ to). joint_same (λ i l m. refl) (λ i l m. refl) (value_other v to va r ne) (value_other w to wa r ne) (line_kept r (sym (state_other s to Full r ne) ∙ p)))
            (cases_eq r to);
        letters = λ h e. absurd (no_hand h e);
        gathers = λ h e. absurd (no_hand h e);
      }
        where
          to : ℕ
          to = g.hand.destination

          va : ℕ
          va = o.product (v g.hand.a) (v g.hand.b)

          wa : ℕ
          wa = o.product (w g.hand.a) (w g.hand.b)

          At : ℕ → Type 0
          At r = Joint o L n k mask (λ i. share_held (held o s g.hand x seat) i r) (λ i. share_held (held o s g.hand y seat) i r) (with_value v to va r) (with_value w to wa r)

          all : (i : ℕ) → 1 ≤ i → i ≤ n → flag (set s.gathered (seat - 1) true) i ≡ true
          all i low high =
              flag_of_all s.n (set s.gathered (seat - 1) true) i low (seat_within i high)
              (omega (arith, few, link.slate_shape.gathered_long, length-set s.gathered (seat - 1) true)) last

          letters_all : (q : ℕ) → 1 ≤ q → q ≤ n → flag s.dealt q ≡ true
          letters_all q low high = flag_of_all s.n s.dealt q low (seat_within q high) (omega (arith, few, link.slate_shape.dealt_long)) g.all_dealt

          here : Joint o L n k mask (λ i. share_held (held o s g.hand x seat) i to) (λ i. share_held (held o s g.hand y seat) i to) va wa
          here =
              joint_cong o L n k mask (λ i l m. first_gathers i l m (all i l m)) (λ i l m. second_gathers i l m (all i l m))
              (joint_gather o L n k mask (letter_held x) (letter_held y) limits.n_high limits.n_low (omega (arith, limits.k_low))
              (link.lines g.hand.a facts.2) (link.lines g.hand.b facts.3)
              (λ q low high. link.letters g.hand g.in_hand q low high (letters_all q low high)))

      -- a seat gathers, the last one or not
      pub gathered : (b : Bool) → last_gather s seat ≡ b
          → let after : Slate = cond b (with_hand (with_line s g.hand.destination Full) None) (with_gathered s seat) in
          Linked o L n k mask (book after (cond b (without_letters (held o s g.hand x seat)) (held o s g.hand x seat)))
          (book after (cond b (without_letters (held o s g.hand y seat)) (held o s g.hand y seat)))
          (cond b (with_value v g.hand.destination (o.product (v g.hand.a) (v g.hand.b))) v)
          (cond b (with_value w g.hand.destination (o.product (w g.hand.a) (w g.hand.b))) w)
      gathered true last = gathered_last last
      gathered false more = gathered_more
