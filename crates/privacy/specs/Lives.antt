-- A book from its making on, and the runs that the promises speak of: any of the nine calls in any order. Assumes nothing.
use Rattle.std.specs.Prelude.{◌≡◌, ℕ, List, [], ◌∷◌, Some, None, Ok, Err}
use Rattle.kinds.specs.Kind.{Ops}
use Rattle.sharing.specs.declared.refusal.Refusal.{Refusal}
use Rattle.sharing.specs.declared.refusal.Refusal.TheVariants.{AlreadySet, Unset}
use Rattle.book.specs.Books.{answered, blank, left, list_after, set_answered, set_left, written_down}
use Rattle.book.specs.Calls.{Call, «open»}
use Rattle.book.specs.Secrets.{opened}
use Rattle.book.specs.Slates.{why, why_set}
use Rattle.book.specs.States.{State, answer, set_book}
use Rattle.book.specs.declared.pages.Pages.{Pages}
use Rattle.privacy.specs.Runs.{open_list, run}

-- any of the nine calls
pub data Act : Type 0 where
  sets : (n k : ℕ) → Act
  calls : Call → Act

-- the book after any calls, each by the contract of the book's own method
abbrev pub life : Ops → Pages → List Act → Pages
life o p [] = p
life o p (sets n k ∷ acts) = life o (set_left p n k) acts
life o p (calls c ∷ acts) = life o (left o p c) acts

-- all but set
abbrev pub calls_among : List Act → List Call
calls_among [] = []
calls_among (sets n k ∷ acts) = calls_among acts
calls_among (calls c ∷ acts) = c ∷ calls_among acts

pub record LivesAreRuns : Type 0 where
  -- until a set is accepted, every call is refused and the book stays as it was made
  pub unset : (o : Ops) (c : Call) → (answered o blank c ≡ Err Unset) × (left o blank c ≡ blank)
  pub set_refused : (n k : ℕ) (refusal : Refusal) → why_set n k ≡ Some refusal → (set_answered blank n k ≡ Err refusal) × (set_left blank n k ≡ blank)
  -- an accepted set leaves the book with which runs begin
  pub set_accepted : (n k : ℕ) → why_set n k ≡ None → (set_answered blank n k ≡ Ok tt) × (set_left blank n k ≡ written_down (set_book n k))
  -- from then on a set is refused and changes nothing, and the other calls are a run: its books, its answers, its lists
  pub set_again : (t : State) (n k : ℕ) → (set_answered (written_down t) n k ≡ Err AlreadySet) × (set_left (written_down t) n k ≡ written_down t)
  pub books : (o : Ops) (t : State) (acts : List Act) → life o (written_down t) acts ≡ written_down (run o t (calls_among acts))
  pub answers : (o : Ops) (t : State) (c : Call) → answered o (written_down t) c ≡ answer o t c
  pub lists : (o : Ops) (t : State) (line room : ℕ) (old : List ℕ) → why o.size t.slate («open» line room) ≡ None
      → list_after o.size (written_down t) («open» line room) (λ s. opened s.n t.secrets line) old ≡ open_list o t («open» line room)
