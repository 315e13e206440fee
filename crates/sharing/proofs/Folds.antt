-- What a fold gives, where its closure computes a function. Assumes nothing.
use Rattle.std.proofs.Common.{◌≡◌, Option, List, [], ◌∷◌, fold, refl, sym, ap, ◌∙◌}
use Rattle.std.proofs.lemmas.Fn.{fold_over}
use Rattle.std.proofs.lemmas.Iterator.{YieldsList}
use Rattle.std.proofs.lemmas.List.Sums.{fold-append}
use Rattle.std.specs.Fn.{Called}
use Rattle.std.specs.Iterator.{Drains}
use Rattle.std.specs.List.{FoldsTo}
use denote.Param.Members.{Mut}

-- the closure f gives h of the total and the item, and stays as it is
pub fold_by : {S A B F C : Type 0} {steps : S → Option A → S → Type 0} {v : A → B} {g : Mut F (C × (A × Unit {0})) C} {s : S} {all : List B} (h : C → B → C) (f : F)
    → ((a : C) (x : A) (b : C) (f' : F) → Called g f (a, (x, tt)) b f' → (b ≡ h a (v x)) × (f' ≡ f)) → YieldsList steps v s all → (a r : C)
    → (xs : List A) × (f' : F) × Drains steps s xs × FoldsTo {P = F × C} (λ p x q. Called g p.0 (p.1, (x, tt)) q.1 q.0) (f, a) xs (f', r) → r ≡ fold h a all
fold_by {steps = steps} {v = v} {g = g} {s = s} {all = all} h f step yields a r ran =
    fold_over steps v g (λ ys b. b ≡ fold h a ys) f
    (λ ys b x b' f' e k. let (now, same) = step b x b' f' k in (now ∙ ap (λ t. h t (v x)) e ∙ sym (fold-append h a ys (v x ∷ [])), same))
    s all a r yields.runs refl ran
