-- The secrets' rules: what an accepted call does to shares and letters, what open writes and answers, and what show
-- writes. Assumes nothing.
use Rattle.std.specs.Prelude.{ℕ, ◌-◌, Bool, true, false, cond, List, [], ◌∷◌, ◌++◌, map, replicate, Some, None, nat_le, slice_index, slice_index_or, slice_set}
use Rattle.std.specs.List.{range_with_len, flat_map}
use Rattle.kinds.specs.Kind.{Ops}
use Rattle.sharing.specs.Shares.{most_seats, seats_to, share_at, weights_of, weighed}
use Rattle.book.specs.Calls.{Call, enter, sum, scale, begin, deal, gather, «open», show}
use Rattle.book.specs.Slates.{line_count, flag, holds_share, last_gather}
use Rattle.book.specs.declared.secrets.Secrets.{Secrets}
use Rattle.book.specs.declared.slate.Hand.{Hand}
use Rattle.book.specs.declared.slate.Slate.{Slate}

-- ---- rows: a code for each seat, seat 1 first

abbrev pub at_seat : List ℕ → ℕ → ℕ
at_seat row seat = slice_index row (seat - 1)

-- f at seats 1 to n, and 0 past them
abbrev pub by_seat : ℕ → (ℕ → ℕ) → List ℕ
by_seat n f = map (λ i. cond (nat_le i n) (f i) 0) (seats_to most_seats)

abbrev pub no_codes : List ℕ
no_codes = replicate most_seats 0

-- ---- what seats hold

-- the seat's share of line r
abbrev pub share_held : Secrets → ℕ → ℕ → ℕ
share_held x seat r = at_seat (slice_index_or x.shares r []) seat

-- the letter to the seat from a sender
abbrev pub letter_held : Secrets → ℕ → ℕ → ℕ
letter_held x seat sender = at_seat (slice_index_or x.letters (sender - 1) []) seat

abbrev pub nothing_held : Secrets
nothing_held = record { shares = replicate line_count no_codes; letters = replicate most_seats no_codes }

abbrev pub with_shares : Secrets → ℕ → List ℕ → Secrets
with_shares x r row = record x { shares = slice_set x.shares r row }

abbrev pub with_letters : Secrets → ℕ → List ℕ → Secrets
with_letters x sender row = record x { letters = slice_set x.letters (sender - 1) row }

abbrev pub without_letters : Secrets → Secrets
without_letters x = record x { letters = replicate most_seats no_codes }

-- ---- what an accepted call does

-- the product of a seat's shares of the two lines in hand, which it shares afresh
abbrev pub dealt_product : Ops → Secrets → Hand → ℕ → ℕ
dealt_product o x h seat = o.product (share_held x seat h.a) (share_held x seat h.b)

-- w_1 × letter from seat 1 + .. + w_n × letter from seat n
abbrev pub gathered_share : Ops → ℕ → Secrets → ℕ → ℕ
gathered_share o n x seat = weighed o (weights_of o n) (map (letter_held x seat) (seats_to n))

-- the seat's share of the destination; after the last seat's gather the letters are cleared
abbrev pub gathered_in : Ops → Slate → Hand → Secrets → ℕ → Secrets
gathered_in o s h x seat =
    let held : Secrets = with_shares x h.destination (slice_set (slice_index_or x.shares h.destination []) (seat - 1) (gathered_share o s.n x seat)) in
    cond (last_gather s seat) (without_letters held) held

abbrev pub move : Ops → Slate → Call → Secrets → Secrets
move o s (enter line house figure strip) x = with_shares x line (by_seat s.n (share_at o figure strip))
move o s (sum d a b) x = with_shares x d (by_seat s.n (λ i. o.sum (share_held x i a) (share_held x i b)))
move o s (scale d a c) x = with_shares x d (by_seat s.n (λ i. o.product c (share_held x i a)))
move o s (begin d a b) x = x
move o s (deal seat strip) x =
    elim s.hand [ Some h ↦ with_letters x seat (by_seat s.n (share_at o (dealt_product o x h seat) strip)) | None ↦ x ]
move o s (gather seat) x = elim s.hand [ Some h ↦ gathered_in o s h x seat | None ↦ x ]
move o s («open» line room) x = x
move o s (show seat room) x = x

-- ---- what is opened and shown

-- what open writes: the shares of seats 1 to n
abbrev pub opened : ℕ → Secrets → ℕ → List ℕ
opened n x r = map (λ i. share_held x i r) (seats_to n)

-- what open answers: w_1 × share 1 + .. + w_n × share n
abbrev pub total_of : Ops → ℕ → Secrets → ℕ → ℕ
total_of o n x r = weighed o (weights_of o n) (opened n x r)

-- an entry that is there, or not
abbrev pub entry_if : Bool → ℕ → List ℕ
entry_if true c = 1 ∷ c ∷ []
entry_if false c = 0 ∷ 0 ∷ []

-- what show writes: a seat's share of each line, and the letter to it from each sender
abbrev pub shown : Slate → Secrets → ℕ → List ℕ
shown s x seat =
    flat_map (λ r. entry_if (holds_share s seat r) (share_held x seat r)) (range_with_len 0 line_count)
    ++ flat_map (λ sender. entry_if (flag s.dealt sender) (letter_held x seat sender)) (seats_to most_seats)
