-- Totals are plain: over every run, the total that an accepted open answers is the line's value, and enough seats'
-- shares of a full line rebuild it. Assumes nothing.
use Rattle.std.specs.Prelude.{◌≡◌, ℕ, ◌≤◌, true, List, [], ◌∷◌, map, length, None, Ok}
use Rattle.kinds.specs.Kind.{Ops, Lawful}
use Rattle.sharing.specs.Rebuilding.{apart, rebuilt}
use Rattle.book.specs.Calls.{Call, «open»}
use Rattle.book.specs.Secrets.{share_held}
use Rattle.book.specs.Slates.{why, why_set, state_of}
use Rattle.book.specs.States.{State, set_book, answer}
use Rattle.book.specs.Values.{no_values}
use Rattle.book.specs.declared.slate.Line.TheVariants.{Full}
use Rattle.privacy.specs.Runs.{run, values_after}

-- each seat is 1 to n
abbrev pub SeatsOf : ℕ → List ℕ → Type 0
SeatsOf n [] = Unit {0}
SeatsOf n (s ∷ seats) = (1 ≤ s) × (s ≤ n) × SeatsOf n seats

-- the total of an accepted open is the line's value by the plain calculation
abbrev pub TotalsAreValues : Type 0
TotalsAreValues = (o : Ops) → Lawful o → (n k : ℕ) → why_set n k ≡ None → (calls : List Call) (line room : ℕ)
    → let t : State = run o (set_book n k) calls in
    why o.size t.slate («open» line room) ≡ None
    → answer o t («open» line room) ≡ Ok (values_after o (set_book n k) no_values calls line)

-- k or more seats' shares of a full line rebuild its value
abbrev pub SharesRebuildValues : Type 0
SharesRebuildValues = (o : Ops) → Lawful o → (n k : ℕ) → why_set n k ≡ None → (calls : List Call) (line : ℕ) (seats : List ℕ)
    → let t : State = run o (set_book n k) calls in
    state_of t.slate line ≡ Full → SeatsOf n seats → apart seats ≡ true → k ≤ length seats
    → rebuilt o k seats (map (λ i. share_held t.secrets i line) seats) ≡ Ok (values_after o (set_book n k) no_values calls line)
