-- What it is for two books to be linked: the slates are equal, and what the seats hold differs from book to book by the
-- mask. Assumes nothing.
use Rattle.std.proofs.Common.{◌≡◌, ℕ, suc, ◌+◌, ◌<◌, ◌≤◌, true, false, List, [], length, get_or, Some, None}
use Rattle.kinds.specs.Kind.{Ops, Lawful}
use Rattle.sharing.specs.Rebuilding.{holds, all_below}
use Rattle.sharing.specs.Shares.{most_seats}
use Rattle.sharing.proofs.Codes.{codes}
use Rattle.book.specs.Secrets.{share_held, letter_held, dealt_product, gathered_share}
use Rattle.book.specs.Slates.{line_count, state_of, flag, no_flags}
use Rattle.book.specs.States.{State}
use Rattle.book.specs.Values.{Values}
use Rattle.book.specs.declared.secrets.Secrets.{Secrets}
use Rattle.book.specs.declared.slate.Hand.{Hand}
use Rattle.book.specs.declared.slate.Line.TheVariants.{Awaited, Full}
use Rattle.book.specs.declared.slate.Slate.{Slate}
use Rattle.privacy.specs.Pairing.{Item, strip_length}
use Rattle.privacy.proofs.Joint.{Joint, mask_at}

-- the limits of n and k
pub record Within (n k : ℕ) : Type 0 where
  pub k_low : 2 ≤ k
  pub k_high : k ≤ 5
  pub n_low : k + k ≤ suc n
  pub n_high : n ≤ most_seats

-- the lengths of a slate's lists
pub record SlateShape (n k : ℕ) (s : Slate) : Type 0 where
  pub n_is : s.n ≡ n
  pub k_is : s.k ≡ k
  pub lines_long : length s.lines ≡ line_count
  pub dealt_long : length s.dealt ≡ most_seats
  pub gathered_long : length s.gathered ≡ most_seats

-- the lengths of what the seats hold
pub record SecretsShape (x : Secrets) : Type 0 where
  pub shares_long : length x.shares ≡ line_count
  pub rows_long : (r : ℕ) → r < line_count → length (get_or x.shares r []) ≡ most_seats
  pub letters_long : length x.letters ≡ most_seats
  pub letter_rows_long : (s : ℕ) → s < most_seats → length (get_or x.letters s []) ≡ most_seats

-- the product in hand awaits one line and reads two full ones; with none in hand no line is awaited
pub record Tidy (s : Slate) : Type 0 where
  pub awaited_in_hand : (h : Hand) → s.hand ≡ Some h → (h.destination < line_count) × (state_of s h.destination ≡ Awaited) × (state_of s h.a ≡ Full) × (state_of s h.b ≡ Full)
  pub awaited_only : (h : Hand) → s.hand ≡ Some h → (r : ℕ) → state_of s r ≡ Awaited → r ≡ h.destination
  pub none_awaited : s.hand ≡ None → (r : ℕ) → state_of s r ≡ Awaited → ⊥
  pub none_flagged : s.hand ≡ None → (s.dealt ≡ no_flags) × (s.gathered ≡ no_flags)
  pub gathered_after : (i : ℕ) → flag s.gathered i ≡ true → (j : ℕ) → 1 ≤ j → j ≤ s.n → flag s.dealt j ≡ true
  pub past_n : (j : ℕ) → s.n < j → flag s.dealt j ≡ false

module _ (o : Ops) (L : Lawful o) (n k : ℕ) (mask : List ℕ) where
  -- t and u are the books of the two runs, v and w the values of their lines
  pub record Linked (t u : State) (v w : Values) : Type 0 where
    pub same_slate : t.slate ≡ u.slate
    pub slate_shape : SlateShape n k t.slate
    pub shape : SecretsShape t.secrets
    pub other_shape : SecretsShape u.secrets
    pub tidy : Tidy t.slate
    pub lines : (r : ℕ) → state_of t.slate r ≡ Full → Joint o L n k mask (λ i. share_held t.secrets i r) (λ i. share_held u.secrets i r) (v r) (w r)
    pub letters : (h : Hand) → t.slate.hand ≡ Some h → (s : ℕ) → 1 ≤ s → s ≤ n → flag t.slate.dealt s ≡ true
        → Joint o L n k mask (λ i. letter_held t.secrets i s) (λ i. letter_held u.secrets i s) (dealt_product o t.secrets h s) (dealt_product o u.secrets h s)
    pub gathers : (h : Hand) → t.slate.hand ≡ Some h → (i : ℕ) → 1 ≤ i → i ≤ n → flag t.slate.gathered i ≡ true
        → (share_held t.secrets i h.destination ≡ gathered_share o n t.secrets i) × (share_held u.secrets i h.destination ≡ gathered_share o n u.secrets i)

  -- each seat of the group is a seat at which the mask is zero
  abbrev pub Hidden : List ℕ → Type 0
  Hidden group = (s : ℕ) → holds s group ≡ true → (1 ≤ s) × (s ≤ n) × (mask_at o L n k mask s ≡ (codes o L).zero)

  -- a strip as an item leaves it to the choice
  pub record Fit (i : Item) (strip : List ℕ) : Type 0 where
    pub long : length strip ≡ strip_length i
    pub below : all_below o.size strip ≡ true
