-- Runs of calls on a set book, and what a group of seats sees of them. Assumes nothing.
use Rattle.std.specs.Prelude.{ℕ, List, [], ◌∷◌, map, Some, None, Result}
use Rattle.kinds.specs.Kind.{Ops}
use Rattle.sharing.specs.declared.refusal.Refusal.{Refusal}
use Rattle.book.specs.Calls.{Call, enter, sum, scale, begin, deal, gather, «open», show}
use Rattle.book.specs.Secrets.{opened, shown}
use Rattle.book.specs.Slates.{why, mark}
use Rattle.book.specs.States.{State, after, answer}
use Rattle.book.specs.Values.{Values, reckoned}
use Rattle.book.specs.declared.slate.Slate.{Slate}

-- the book after a list of calls, each meeting what the earlier ones left
abbrev pub run : Ops → State → List Call → State
run o t [] = t
run o t (c ∷ calls) = run o (after o t c) calls

-- the values of the lines after a list of calls
abbrev pub values_after : Ops → State → Values → List Call → Values
values_after o t v [] = v
values_after o t v (c ∷ calls) = values_after o (after o t c) (reckoned o t.slate c v) calls

-- the slate after a call, refused or not
abbrev pub slate_after : Ops → Slate → Call → Slate
slate_after o s c = elim (why o.size s c) [ Some refusal ↦ s | None ↦ mark s c ]

-- the list that an accepted open writes
abbrev pub open_list : Ops → State → Call → List ℕ
open_list o t (enter line house figure strip) = []
open_list o t (sum d a b) = []
open_list o t (scale d a c) = []
open_list o t (begin d a b) = []
open_list o t (deal seat strip) = []
open_list o t (gather seat) = []
open_list o t («open» line room) = elim (why o.size t.slate («open» line room)) [ Some refusal ↦ [] | None ↦ opened t.slate.n t.secrets line ]
open_list o t (show seat room) = []

-- What a group of seats, a passive coalition, sees of a call: its answer, the list that open writes, and, after the call, all entries of show
-- for each seat of the group.
pub record Sight : Type 0 where
  pub answered : Result ℕ Refusal
  pub listed : List ℕ
  pub entries : List (List ℕ)

abbrev pub sight : Ops → List ℕ → State → Call → Sight
sight o group t c = record {
  answered = answer o t c;
  listed = open_list o t c;
  entries = map (shown (after o t c).slate (after o t c).secrets) group;
}

-- what the group sees of a run, call by call
abbrev pub sights : Ops → List ℕ → State → List Call → List Sight
sights o group t [] = []
sights o group t (c ∷ calls) = sight o group t c ∷ sights o group (after o t c) calls
