-- A book's pages, set or unset: what each call answers, writes and leaves. Assumes nothing.
use Rattle.std.specs.Prelude.{◌≡◌, ℕ, ◌≤◌, cond, nat_eq, List, [], length, Some, None, Ok, Err, Result}
use Rattle.kinds.specs.Kind.{Ops}
use Rattle.sharing.specs.Shares.{most_seats, weights_of}
use Rattle.sharing.specs.declared.refusal.Refusal.{Refusal}
use Rattle.sharing.specs.declared.refusal.Refusal.TheVariants.{Unset, AlreadySet}
use Rattle.book.specs.Calls.{Call}
use Rattle.book.specs.Secrets.{nothing_held}
use Rattle.book.specs.Slates.{why, why_set, fresh, allowed}
use Rattle.book.specs.States.{State, after, answer}
use Rattle.book.specs.declared.pages.Pages.{Pages}
use Rattle.book.specs.declared.slate.Slate.{Slate}

-- how many seats a book has, none while it is unset
abbrev pub seat_count : Pages → ℕ
seat_count p = elim p.slate [ Some s ↦ s.n | None ↦ 0 ]

-- a book has at most nine seats; it keeps their weights once they are worked out, and none before
pub record KeepsWeights (o : Ops) (p : Pages) (weights : List ℕ) : Type 0 where
  pub few : seat_count p ≤ most_seats
  pub those : weights ≡ cond (nat_eq (length weights) 0) [] (weights_of o (seat_count p))

-- the pages of a new book
abbrev pub blank : Pages
blank = record { slate = None; secrets = nothing_held }

abbrev pub state_on : Slate → Pages → State
state_on s p = record { slate = s; secrets = p.secrets }

abbrev pub written_down : State → Pages
written_down t = record { slate = Some t.slate; secrets = t.secrets }

-- Each of the eight calls refuses an unset book before all else.
abbrev pub answered : Ops → Pages → Call → Result ℕ Refusal
answered o p c = elim p.slate [ Some s ↦ answer o (state_on s p) c | None ↦ Err Unset ]

-- an answer that says nothing but whether the call was accepted
abbrev pub done : Result ℕ Refusal → Result (Unit {0}) Refusal
done (Ok number) = Ok tt
done (Err refusal) = Err refusal

-- what a call leaves; a refusal changes nothing
abbrev pub left : Ops → Pages → Call → Pages
left o p c = elim p.slate [ Some s ↦ written_down (after o (state_on s p) c) | None ↦ p ]

-- what the list handed in holds after an accepted call, and after a refused one
abbrev pub list_after : ℕ → Pages → Call → (Slate → List ℕ) → List ℕ → List ℕ
list_after size p c new old = elim p.slate [ Some s ↦ elim (why size s c) [ Some refusal ↦ old | None ↦ new s ] | None ↦ old ]

-- set(n, k)
abbrev pub set_answered : Pages → ℕ → ℕ → Result (Unit {0}) Refusal
set_answered p n k = elim p.slate [ Some s ↦ Err AlreadySet | None ↦ allowed (why_set n k) ]

abbrev pub set_left : Pages → ℕ → ℕ → Pages
set_left p n k = elim p.slate [ Some s ↦ p | None ↦ elim (why_set n k) [ Some refusal ↦ p | None ↦ record { slate = Some (fresh n k); secrets = nothing_held } ] ]
