-- The slate's rules: when each call says no, and what an accepted call leaves. They see the slate and the call, and no
-- share: a refusal cannot depend on what a seat holds. Assumes nothing.
use Rattle.std.specs.Prelude.{ℕ, ◌+◌, ◌-◌, ◌*◌, Bool, true, false, cond, not, ◌&&◌, ◌||◌, List, [], ◌∷◌, length, take, replicate, Some, None, Ok, Err, Option, Result, ◌==◌, nat_le, nat_lt, slice_index_or, slice_set}
use Rattle.sharing.specs.Rebuilding.{all_below, least_threshold, most_threshold}
use Rattle.sharing.specs.Shares.{most_seats}
use Rattle.sharing.specs.declared.refusal.Refusal.{Refusal}
use Rattle.sharing.specs.declared.refusal.Refusal.TheVariants.{Limits, NoLine, NotEmpty, NotFull, NoSeat, NotBelow, StripLength, StripCode, InHand, NoneInHand, Dealt, NotAllDealt, Gathered, ListLength}
use Rattle.book.specs.Calls.{Call, enter, sum, scale, begin, deal, gather, «open», show}
use Rattle.book.specs.declared.slate.Line.{Line}
use Rattle.book.specs.declared.slate.Line.TheVariants.{Empty, Awaited, Full}
use Rattle.book.specs.declared.slate.Hand.{Hand}
use Rattle.book.specs.declared.slate.Slate.{Slate}

-- the lines are 0 to 31
abbrev pub line_count : ℕ
line_count = 32

-- the entries of show: two for each line, and two for each sender of letters
abbrev pub show_count : ℕ
show_count = 2 * line_count + 2 * most_seats

-- ---- what the slate tells

abbrev pub state_of : Slate → ℕ → Line
state_of s r = slice_index_or s.lines r Empty

abbrev pub is_empty : Line → Bool
is_empty Empty = true
is_empty Awaited = false
is_empty Full = false

abbrev pub is_awaited : Line → Bool
is_awaited Empty = false
is_awaited Awaited = true
is_awaited Full = false

abbrev pub is_full : Line → Bool
is_full Empty = false
is_full Awaited = false
is_full Full = true

-- the flag of a seat, seat 1 first
abbrev pub flag : List Bool → ℕ → Bool
flag flags seat = slice_index_or flags (seat - 1) false

-- each of seats 1 to n has its flag
abbrev pub all_set : List Bool → Bool
all_set [] = true
all_set (b ∷ bs) = b && all_set bs

-- a house or a seat is outside 1 to n
abbrev pub no_seat : Slate → ℕ → Bool
no_seat s seat = seat == 0 || nat_lt s.n seat

-- The seat holds a share of the line: the line is full, or awaited and the seat has gathered.
abbrev pub holds_share : Slate → ℕ → ℕ → Bool
holds_share s seat r = is_full (state_of s r) || (is_awaited (state_of s r) && flag s.gathered seat)

-- the seat is the last to gather
abbrev pub last_gather : Slate → ℕ → Bool
last_gather s seat = all_set (take s.n (slice_set s.gathered (seat - 1) true))

-- ---- when a call says no: the first cause decides

abbrev pub cause : Bool → Refusal → Option Refusal → Option Refusal
cause true why rest = Some why
cause false why rest = rest

-- the answer of a call that says nothing but whether it was accepted
abbrev pub allowed : Option Refusal → Result (Unit {0}) Refusal
allowed (Some why) = Err why
allowed None = Ok tt

-- a destination and two lines to be read
abbrev pub why_lines : Slate → ℕ → ℕ → ℕ → Option Refusal → Option Refusal
why_lines s d a b rest =
    cause (nat_le line_count d || (nat_le line_count a || nat_le line_count b)) NoLine
    (cause (not (is_empty (state_of s d))) NotEmpty (cause (not (is_full (state_of s a) && is_full (state_of s b))) NotFull rest))

abbrev pub why_strip : Slate → ℕ → List ℕ → Option Refusal
why_strip s size strip = cause (not (length strip + 1 == s.k)) StripLength (cause (not (all_below size strip)) StripCode None)

-- the size of the kind comes first
abbrev pub why : ℕ → Slate → Call → Option Refusal
why size s (enter line house figure strip) =
    cause (nat_le line_count line) NoLine
    (cause (not (is_empty (state_of s line))) NotEmpty (cause (no_seat s house) NoSeat (cause (nat_le size figure) NotBelow (why_strip s size strip))))
why size s (sum d a b) = why_lines s d a b None
why size s (scale d a c) = why_lines s d a a (cause (nat_le size c) NotBelow None)
why size s (begin d a b) = elim s.hand [ Some h ↦ Some InHand | None ↦ why_lines s d a b None ]
why size s (deal seat strip) =
    elim s.hand [
      | Some h ↦ cause (no_seat s seat) NoSeat (cause (flag s.dealt seat) Dealt (why_strip s size strip))
      | None ↦ Some NoneInHand
    ]
why size s (gather seat) =
    elim s.hand [
      | Some h ↦ cause (no_seat s seat) NoSeat (cause (not (all_set (take s.n s.dealt))) NotAllDealt (cause (flag s.gathered seat) Gathered None))
      | None ↦ Some NoneInHand
    ]
why size s («open» line room) = cause (nat_le line_count line) NoLine (cause (not (is_full (state_of s line))) NotFull (cause (not (room == s.n)) ListLength None))
why size s (show seat room) = cause (no_seat s seat) NoSeat (cause (not (room == show_count)) ListLength None)

-- set(n, k) on an unset book: k is 2 to 5, and n is 2k − 1 to 9
abbrev pub why_set : ℕ → ℕ → Option Refusal
why_set n k = cause ((nat_lt k least_threshold || nat_lt most_threshold k) || (nat_lt (n + 1) (2 * k) || nat_lt most_seats n)) Limits None

-- ---- what an accepted call leaves

abbrev pub no_flags : List Bool
no_flags = replicate most_seats false

-- set(n, k): all lines are empty, no product is in hand
abbrev pub fresh : ℕ → ℕ → Slate
fresh n k = record { n = n; k = k; lines = replicate line_count Empty; hand = None; dealt = no_flags; gathered = no_flags }

abbrev pub with_line : Slate → ℕ → Line → Slate
with_line s r state = record s { lines = slice_set s.lines r state }

abbrev pub with_hand : Slate → Option Hand → Slate
with_hand s hand = record s { hand = hand; dealt = no_flags; gathered = no_flags }

abbrev pub with_dealt : Slate → ℕ → Slate
with_dealt s seat = record s { dealt = slice_set s.dealt (seat - 1) true }

abbrev pub with_gathered : Slate → ℕ → Slate
with_gathered s seat = record s { gathered = slice_set s.gathered (seat - 1) true }

-- After the last seat's gather the destination is full and the product is over.
abbrev pub gathered_by : Slate → ℕ → ℕ → Slate
gathered_by s destination seat = cond (last_gather s seat) (with_hand (with_line s destination Full) None) (with_gathered s seat)

abbrev pub mark : Slate → Call → Slate
mark s (enter line house figure strip) = with_line s line Full
mark s (sum d a b) = with_line s d Full
mark s (scale d a c) = with_line s d Full
mark s (begin d a b) = with_hand (with_line s d Awaited) (Some (record { destination = d; a = a; b = b }))
mark s (deal seat strip) = with_dealt s seat
mark s (gather seat) = elim s.hand [ Some h ↦ gathered_by s h.destination seat | None ↦ s ]
mark s («open» line room) = s
mark s (show seat room) = s
