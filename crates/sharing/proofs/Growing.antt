-- The step of the loop that multiplies a polynomial by 1 − r × x in place. Assumes nothing.
use Rattle.std.proofs.Common.{◌≡◌, ℕ, ◌+◌, ◌<◌, List, ◌∷◌, length, get_or, drop, sym, ap, ◌∙◌}
use Rattle.std.proofs.lemmas.List.{at_drop_more}
use Rattle.kinds.specs.Kind.{Ops, difference}
use Rattle.sharing.specs.Masks.{grown}
use Rattle.sharing.proofs.InPlace.{left_here}

-- the first of the coefficients that are left
pub grown_more : (o : Ops) (r before : ℕ) (now was : List ℕ) (i v : ℕ) → i < length was → drop i now ≡ drop i was
    → v ≡ difference o (get_or now i 0) (o.product r before)
    → grown o r before (drop i was) ≡ v ∷ grown o r (get_or now i 0) (drop (i + 1) was)
grown_more o r before now was i v inside left e =
    at_drop_more (grown o r before) was i 0 inside
    ∙ ap (λ c. difference o c (o.product r before) ∷ grown o r c (drop (i + 1) was)) (sym (left_here 0 now was i left))
    ∙ ap (λ x. x ∷ grown o r (get_or now i 0) (drop (i + 1) was)) (sym e)
