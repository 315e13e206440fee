-- Two linked books with one slate show the same to a seat at which the mask is zero, and answer a call of both runs
-- alike. Assumes nothing.
use Rattle.std.proofs.Common.{◌≡◌, ℕ, suc, ◌<◌, ◌≤◌, Bool, true, false, ◌&&◌, eqb, List, [], ◌∷◌, ◌++◌, map, Some, None, Ok, Err, Option, Result, sym, refl, ap, ◌∙◌, subst, ap₂, ⊎_elim, arith}
use mathlib.Core.Path.{fun_ext}
use Rattle.std.specs.List.{range_with_len, flat_map}
use Rattle.std.proofs.lemmas.Bool.{and_parts, both_ways, cases_lt, eq-eqb, or_cases, or_left, or_right}
use Rattle.kinds.specs.Kind.{Ops, Lawful}
use Rattle.sharing.specs.Rebuilding.{holds}
use Rattle.sharing.specs.Shares.{most_seats, seats_to, weights_of, weighed}
use Rattle.sharing.specs.declared.refusal.Refusal.{Refusal}
use Rattle.sharing.proofs.Codes.{codes}
use Rattle.book.specs.Calls.{enter, sum, scale, begin, deal, gather, «open», show}
use Rattle.book.specs.Secrets.{share_held, letter_held, opened, entry_if, shown}
use Rattle.book.specs.Slates.{line_count, state_of, is_full, is_awaited, flag, holds_share, why}
use Rattle.book.specs.States.{number_of, answer}
use Rattle.book.specs.Values.{Values}
use Rattle.book.specs.declared.secrets.Secrets.{Secrets}
use Rattle.book.specs.declared.slate.Hand.{Hand}
use Rattle.book.specs.declared.slate.Line.TheVariants.{Awaited, Full}
use Rattle.book.specs.declared.slate.Slate.{Slate}
use Rattle.privacy.specs.Pairing.{Side, other, Item, alike, enters, deals, call_in}
use Rattle.privacy.specs.Privacy.{OpensLevel}
use Rattle.privacy.specs.Runs.{open_list}
use Rattle.privacy.proofs.Accepted.{awaited_is, full_is, some_not_none, accepted_open}
use Rattle.privacy.proofs.Joint.{mask_at, joint_hidden, joint_level}
use Rattle.privacy.proofs.Links.{Linked}
use Rattle.privacy.proofs.Reading.{seats_same, flag_none}
use Rattle.privacy.proofs.Steps.{book}

-- an entry that is there has the same code
entry_same : (b : Bool) (p q : ℕ) → (b ≡ true → p ≡ q) → entry_if b p ≡ entry_if b q
entry_same true p q same = ap (λ (c : ℕ). 1 ∷ c ∷ []) (same refl)
entry_same false p q same = refl

-- what is alike for each seat of a group is alike for the group
pub group_same : {A : Type 0} (f g : ℕ → A) (group : List ℕ) → ((s : ℕ) → holds s group ≡ true → f s ≡ g s) → map f group ≡ map g group
group_same f g [] same = refl
group_same f g (s ∷ group) same =
    ap₂ ◌∷◌ (same s (or_left (eqb s s) (holds s group) (eq-eqb s s refl))) (group_same f g group (λ r h. same r (or_right (eqb r s) (holds r group) h)))

lists_same : (a : Option Refusal) (p q : List ℕ) → (a ≡ None → p ≡ q) → ◌≡◌ {A = List ℕ} (elim a [ Some r ↦ [] | None ↦ p ]) (elim a [ Some r ↦ [] | None ↦ q ])
lists_same (Some r) p q same = refl
lists_same None p q same = same refl

answers_same : (a b : Option Refusal) → a ≡ b → (p q : ℕ) → (a ≡ None → p ≡ q)
    → ◌≡◌ {A = Result ℕ Refusal} (elim a [ Some r ↦ Err r | None ↦ Ok p ]) (elim b [ Some r ↦ Err r | None ↦ Ok q ])
answers_same (Some r) (Some t) e p q same = cc
answers_same (Some r) None e p q same = absurd (some_not_none r e)
answers_same None (Some t) e p q same = absurd (some_not_none t (sym e))
answers_same None None e p q same = ap (λ (c : ℕ). Ok c) (same refl)

module _ (o : Ops) (L : Lawful o) (n k : ℕ) (mask : List ℕ) where
  module _ (s : Slate) (x y : Secrets) (v w : Values) (link : Linked o L n k mask (book s x) (book s y) v w) where
    module _ (seat : ℕ) (low : 1 ≤ seat) (high : seat ≤ n) (zero_at : mask_at o L n k mask seat ≡ (codes o L).zero) where
      letter_same : (h : Hand) → s.hand ≡ Some h → (q : ℕ) → 1 ≤ q → q ≤ n → flag s.dealt q ≡ true → letter_held x seat q ≡ letter_held y seat q
      letter_same h e q low' high' p = joint_hidden o L n k mask (link.letters h e q low' high' p) seat low high zero_at

      gathered_same : (h : Hand) → s.hand ≡ Some h → flag s.gathered seat ≡ true → share_held x seat h.destination ≡ share_held y seat h.destination
      gathered_same h e p =
          let (here, there) = link.gathers h e seat low high p in
          here
          ∙ ap (weighed o (weights_of o n)) (seats_same (letter_held x seat) (letter_held y seat) n
          (λ q low' high'. letter_same h e q low' high' (link.tidy.gathered_after seat p q low' (omega (arith, link.slate_shape.n_is)))))
          ∙ sym there

      -- the shares that are there
      share_same : (r : ℕ) → holds_share s seat r ≡ true → share_held x seat r ≡ share_held y seat r
      share_same r p =
          ⊎_elim (λ (f : is_full (state_of s r) ≡ true). joint_hidden o L n k mask (link.lines r (full_is (state_of s r) f)) seat low high zero_at)
          (λ (a : (is_awaited (state_of s r) && flag s.gathered seat) ≡ true). let (awaited, has) = and_parts _ _ a in go s.hand refl (awaited_is (state_of s r) awaited) has)
          (or_cases (is_full (state_of s r)) (is_awaited (state_of s r) && flag s.gathered seat) p)
        where
          go : (hand : Option Hand) → s.hand ≡ hand → state_of s r ≡ Awaited → flag s.gathered seat ≡ true → share_held x seat r ≡ share_held y seat r
          go (Some h) e awaited has =
              subst (λ (d : ℕ). share_held x seat d ≡ share_held y seat d) (sym (link.tidy.awaited_only h e r awaited)) (gathered_same h e has)
          go None e awaited has = absurd (link.tidy.none_awaited e r awaited)

      -- the letters that are there
      from_sender : (q : ℕ) → 1 ≤ q → flag s.dealt q ≡ true → letter_held x seat q ≡ letter_held y seat q
      from_sender q low' p = go s.hand refl
        where
          within : q ≤ n
          within =
              ⊎_elim (λ (far : s.n < q). absurd (both_ways _ (link.tidy.past_n q far) p)) (λ (near : q ≤ s.n). omega (arith, link.slate_shape.n_is))
              (cases_lt s.n q)

          go : (hand : Option Hand) → s.hand ≡ hand → letter_held x seat q ≡ letter_held y seat q
          go (Some h) e = letter_same h e q low' within p
          go None e = absurd (both_ways _ (ap (λ (flags : List Bool). flag flags q) (link.tidy.none_flagged e).0 ∙ flag_none q) p)

      sent_same : (q : ℕ) → flag s.dealt q ≡ true → letter_held x seat q ≡ letter_held y seat q
      sent_same ℕ.zero p = from_sender 1 (omega arith) p
      sent_same (suc q) p = from_sender (suc q) (omega arith) p

      -- a hidden seat is shown the same
      pub shown_same : shown s x seat ≡ shown s y seat
      shown_same =
          ap₂ ◌++◌
          (ap (λ (f : ℕ → List ℕ). flat_map f (range_with_len 0 line_count)) (fun_ext (λ r. entry_same (holds_share s seat r) (share_held x seat r) (share_held y seat r) (share_same r))))
          (ap (λ (f : ℕ → List ℕ). flat_map f (seats_to most_seats)) (fun_ext (λ q. entry_same (flag s.dealt q) (letter_held x seat q) (letter_held y seat q) (sent_same q))))

    -- a line of equal values has the same shares
    pub opened_same : (r : ℕ) → state_of s r ≡ Full → v r ≡ w r → opened s.n x r ≡ opened s.n y r
    opened_same r p e =
        seats_same (λ i. share_held x i r) (λ i. share_held y i r) s.n
        (λ i low high. joint_level o L n k mask (link.lines r p) e i low (omega (arith, link.slate_shape.n_is)))

    -- an accepted open writes the same list in both runs
    open_same : (line room : ℕ) → (why o.size s («open» line room) ≡ None → v line ≡ w line) → why o.size s («open» line room) ≡ None → opened s.n x line ≡ opened s.n y line
    open_same line room level e = opened_same line (accepted_open o.size s line room e) (level e)

    -- what an accepted call answers, and what open writes
    told_same : (side : Side) (i : Item) (strip strip' : List ℕ) → OpensLevel o s v w (call_in side i strip)
        → (why o.size s (call_in side i strip) ≡ None → number_of o (book s x) (call_in side i strip) ≡ number_of o (book s y) (call_in (other side) i strip'))
        × (open_list o (book s x) (call_in side i strip) ≡ open_list o (book s y) (call_in (other side) i strip'))
    told_same side (alike (enter line house figure along)) strip strip' level = (λ e. refl, refl)
    told_same side (alike (sum d a b)) strip strip' level = (λ e. refl, refl)
    told_same side (alike (scale d a c)) strip strip' level = (λ e. refl, refl)
    told_same side (alike (begin d a b)) strip strip' level = (λ e. refl, refl)
    told_same side (alike (deal seat along)) strip strip' level = (λ e. refl, refl)
    told_same side (alike (gather seat)) strip strip' level = (λ e. refl, refl)
    told_same side (alike («open» line room)) strip strip' level =
        (λ e. ap (weighed o (weights_of o s.n)) (open_same line room level e), lists_same (why o.size s («open» line room)) _ _ (open_same line room level))
    told_same side (alike (show seat room)) strip strip' level = (λ e. refl, refl)
    told_same side (enters line house f g m) strip strip' level = (λ e. refl, refl)
    told_same side (deals seat m) strip strip' level = (λ e. refl, refl)

    -- the list that an accepted open writes
    pub listed_same : (side : Side) (i : Item) (strip strip' : List ℕ) → OpensLevel o s v w (call_in side i strip)
        → open_list o (book s x) (call_in side i strip) ≡ open_list o (book s y) (call_in (other side) i strip')
    listed_same side i strip strip' level = (told_same side i strip strip' level).1

    -- the answer, where both runs are refused for the same cause or not at all
    pub answer_same : (side : Side) (i : Item) (strip strip' : List ℕ) → OpensLevel o s v w (call_in side i strip)
        → why o.size s (call_in side i strip) ≡ why o.size s (call_in (other side) i strip')
        → answer o (book s x) (call_in side i strip) ≡ answer o (book s y) (call_in (other side) i strip')
    answer_same side i strip strip' level e =
        answers_same (why o.size s (call_in side i strip)) (why o.size s (call_in (other side) i strip')) e _ _ (told_same side i strip strip' level).0
