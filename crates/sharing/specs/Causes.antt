-- The causes of a refusal, with the numbers that the rules give them. Assumes nothing.
use Rattle.std.specs.Prelude.{ℕ, Bool, true, false, Err, Result}
use Rattle.sharing.specs.declared.refusal.Refusal.{Refusal}
use Rattle.sharing.specs.declared.refusal.Refusal.TheVariants.{Unset, Limits, AlreadySet, NoLine, NotEmpty, NotFull, NoSeat, NotBelow, StripLength, StripCode, InHand, NoneInHand, Dealt, NotAllDealt, Gathered, ListLength, Lengths, Seats, NoFit}

abbrev pub cause_number : Refusal → ℕ
cause_number Unset = 1
cause_number Limits = 2
cause_number AlreadySet = 3
cause_number NoLine = 4
cause_number NotEmpty = 5
cause_number NotFull = 6
cause_number NoSeat = 7
cause_number NotBelow = 8
cause_number StripLength = 9
cause_number StripCode = 10
cause_number InHand = 11
cause_number NoneInHand = 12
cause_number Dealt = 13
cause_number NotAllDealt = 14
cause_number Gathered = 15
cause_number ListLength = 16
cause_number Lengths = 17
cause_number Seats = 18
cause_number NoFit = 19

-- A refusal where the cause holds, and else what the later causes leave: so the first cause decides.
abbrev pub refuse_if : {A : Type 0} → Bool → Refusal → Result A Refusal → Result A Refusal
refuse_if true why rest = Err why
refuse_if false why rest = rest
