-- What an order does: it lays out a book of its kind, or is a call on the book, by the book's own rules. Assumes nothing.
use Rattle.std.specs.Prelude.{ℕ, cond, List, [], Some, None, Ok, Err, Option, Result, ◌==◌}
use Rattle.kinds.specs.Kind.{Ops}
use Rattle.kinds.specs.Kinds.{byte_ops, small_ops, wide_ops}
use Rattle.sharing.specs.declared.refusal.Refusal.{Refusal}
use Rattle.book.specs.Books.{answered, blank, left, seat_count, set_answered, set_left}
use Rattle.book.specs.Calls as calls
use Rattle.book.specs.Secrets.{opened as shares_opened, shown as entries_shown}
use Rattle.book.specs.Slates.{show_count}
use Rattle.book.specs.declared.pages.Pages.{Pages}
use Rattle.forms.specs.Orders.{Order, kind, set, enter, sum, scale, begin, deal, gather, «open», show}
use Rattle.forms.specs.declared.fault.FormFault.{FormFault}
use Rattle.forms.specs.declared.fault.FormFault.TheVariants.{WrongKind, Refused}
use Rattle.tally.specs.declared.answer.Answer.{Answer as Answered}
use Rattle.tally.specs.declared.answer.Answer.TheVariants as code
use Rattle.tally.specs.declared.desk.Desk.{Desk as Kept}
use Rattle.tally.specs.declared.desk.Desk.TheVariants.{Bare, Small, Wide, Byte}

-- bare until the kind is named, then a book of that kind
pub data Desk : Type 0 where
  bare : Desk
  laid : (o : Ops) (p : Pages) → Desk

-- the kinds by their numbers
abbrev pub kind_ops : ℕ → Option Ops
kind_ops which = cond (which == 1) (Some small_ops) (cond (which == 2) (Some wide_ops) (cond (which == 3) (Some byte_ops) None))

abbrev pub desk_of : Kept → Desk
desk_of Bare = bare
desk_of (Small b) = laid small_ops b
desk_of (Wide b) = laid wide_ops b
desk_of (Byte b) = laid byte_ops b

pub data Answer : Type 0 where
  done : Answer
  opened : (line total : ℕ) (shares : List ℕ) → Answer
  shown : (seat : ℕ) (entries : List ℕ) → Answer

-- what the code's Answer stands for
abbrev pub answer_of : Answered → Answer
answer_of code.Done = done
answer_of (code.Opened line total shares) = opened line total shares.items
answer_of (code.Shown seat entries) = shown seat entries

abbrev pub result_of : Result Answered FormFault → Result Answer FormFault
result_of (Ok a) = Ok (answer_of a)
result_of (Err fault) = Err fault

-- the answer to an order, and the desk that it leaves
pub record Turn : Type 0 where
  pub answer : Result Answer FormFault
  pub desk : Desk

-- a refusal of the book goes up inside the form's fault
abbrev pub passed_up : {A : Type 0} → Result A Refusal → (A → Answer) → Result Answer FormFault
passed_up (Ok x) write = Ok (write x)
passed_up (Err refusal) write = Err (Refused refusal)

abbrev pub calls_on : Ops → Pages → calls.Call → (ℕ → Answer) → Turn
calls_on o p c write = record { answer = passed_up (answered o p c) write; desk = laid o (left o p c) }

-- what open writes, and what show writes
abbrev pub shares_of : Pages → ℕ → List ℕ
shares_of p line = elim p.slate [ Some s ↦ shares_opened s.n p.secrets line | None ↦ [] ]

abbrev pub entries_of : Pages → ℕ → List ℕ
entries_of p seat = elim p.slate [ Some s ↦ entries_shown s p.secrets seat | None ↦ [] ]

-- Once the kind is named, an order is a call. Open is lent a list of a place for each seat, and show one of all its entries.
abbrev pub on_book : Ops → Pages → Order → Turn
on_book o p (kind which) = record { answer = Err WrongKind; desk = laid o p }
on_book o p (set n k) = record { answer = passed_up (set_answered p n k) (λ _. done); desk = laid o (set_left p n k) }
on_book o p (enter line house figure strip) = calls_on o p (calls.enter line house figure strip) (λ _. done)
on_book o p (sum d a b) = calls_on o p (calls.sum d a b) (λ _. done)
on_book o p (scale d a c) = calls_on o p (calls.scale d a c) (λ _. done)
on_book o p (begin d a b) = calls_on o p (calls.begin d a b) (λ _. done)
on_book o p (deal seat strip) = calls_on o p (calls.deal seat strip) (λ _. done)
on_book o p (gather seat) = calls_on o p (calls.gather seat) (λ _. done)
on_book o p («open» line) = calls_on o p (calls.«open» line (seat_count p)) (λ total. opened line total (shares_of p line))
on_book o p (show seat) = calls_on o p (calls.show seat show_count) (λ _. shown seat (entries_of p seat))

abbrev pub kind_missing : Turn
kind_missing = record { answer = Err WrongKind; desk = bare }

-- Before the kind is named, nothing but a kind is taken.
abbrev pub on_bare : Order → Turn
on_bare (kind which) = elim (kind_ops which) [ Some o ↦ record { answer = Ok done; desk = laid o blank } | None ↦ kind_missing ]
on_bare (set n k) = kind_missing
on_bare (enter line house figure strip) = kind_missing
on_bare (sum d a b) = kind_missing
on_bare (scale d a c) = kind_missing
on_bare (begin d a b) = kind_missing
on_bare (deal seat strip) = kind_missing
on_bare (gather seat) = kind_missing
on_bare («open» line) = kind_missing
on_bare (show seat) = kind_missing

abbrev pub on_desk : Desk → Order → Turn
on_desk bare order = on_bare order
on_desk (laid o p) order = on_book o p order

-- the turn in which a desk is laid, or is not
abbrev pub laid_turn : Result Kept FormFault → Turn
laid_turn (Ok desk) = record { answer = Ok done; desk = desk_of desk }
laid_turn (Err fault) = record { answer = Err fault; desk = bare }
