-- A set book as a whole: its slate and its secrets, what a call answers, writes and leaves. Assumes nothing.
use Rattle.std.specs.Prelude.{ℕ, Some, None, Ok, Err, Result}
use Rattle.kinds.specs.Kind.{Ops}
use Rattle.sharing.specs.declared.refusal.Refusal.{Refusal}
use Rattle.book.specs.Calls.{Call, enter, sum, scale, begin, deal, gather, «open», show}
use Rattle.book.specs.Secrets.{nothing_held, move, total_of}
use Rattle.book.specs.Slates.{fresh, why, mark}
use Rattle.book.specs.declared.secrets.Secrets.{Secrets}
use Rattle.book.specs.declared.slate.Slate.{Slate}

pub record State : Type 0 where
  pub slate : Slate
  pub secrets : Secrets

-- as set(n, k) leaves an unset book
abbrev pub set_book : ℕ → ℕ → State
set_book n k = record { slate = fresh n k; secrets = nothing_held }

-- a refusal changes nothing
abbrev pub after : Ops → State → Call → State
after o t c =
    elim (why o.size t.slate c) [ Some refusal ↦ t | None ↦ record { slate = mark t.slate c; secrets = move o t.slate c t.secrets } ]

-- the number that an accepted call answers
abbrev pub number_of : Ops → State → Call → ℕ
number_of o t (enter line house figure strip) = 0
number_of o t (sum d a b) = 0
number_of o t (scale d a c) = 0
number_of o t (begin d a b) = 0
number_of o t (deal seat strip) = 0
number_of o t (gather seat) = 0
number_of o t («open» line room) = total_of o t.slate.n t.secrets line
number_of o t (show seat room) = 0

abbrev pub answer : Ops → State → Call → Result ℕ Refusal
answer o t c = elim (why o.size t.slate c) [ Some refusal ↦ Err refusal | None ↦ Ok (number_of o t c) ]
