-- A book's life is a run. Assumes nothing.
use Rattle.std.proofs.Common.{◌≡◌, ℕ, List, [], ◌∷◌, Some, None, Option, refl, ap}
use Rattle.kinds.specs.Kind.{Ops}
use Rattle.sharing.specs.declared.refusal.Refusal.{Refusal}
use Rattle.book.specs.Books.{blank, written_down}
use Rattle.book.specs.Secrets.{nothing_held, opened}
use Rattle.book.specs.Calls.{«open»}
use Rattle.book.specs.Slates.{allowed, fresh, why}
use Rattle.book.specs.States.{State, after}
use Rattle.privacy.specs.Lives.{Act, sets, calls, life, calls_among, LivesAreRuns}
use Rattle.privacy.specs.Runs.{run}

on : (o : Ops) (t : State) (acts : List Act) → life o (written_down t) acts ≡ written_down (run o t (calls_among acts))
on o t [] = refl
on o t (sets n k ∷ acts) = on o t acts
on o t (calls c ∷ acts) = on o (after o t c) acts

same_list : (w : Option Refusal) (new old : List ℕ) → w ≡ None → ◌≡◌ {A = List ℕ} (elim w [ Some r ↦ old | None ↦ new ]) (elim w [ Some r ↦ [] | None ↦ new ])
same_list (Some r) new old e = cc
same_list None new old e = refl

pub lives_are_runs : LivesAreRuns
lives_are_runs = record {
  unset = λ o c. (refl, refl);
  set_refused = λ n k refusal e.
      (ap allowed e, ap (λ (w : Option Refusal). elim w [ Some x ↦ blank | None ↦ record { slate = Some (fresh n k); secrets = nothing_held } ]) e);
  set_accepted = λ n k e.
      (ap allowed e, ap (λ (w : Option Refusal). elim w [ Some x ↦ blank | None ↦ record { slate = Some (fresh n k); secrets = nothing_held } ]) e);
  set_again = λ t n k. (refl, refl);
  books = on;
  answers = λ o t c. refl;
  lists = λ o t line room old e. same_list (why o.size t.slate («open» line room)) (opened t.slate.n t.secrets line) old e;
}
