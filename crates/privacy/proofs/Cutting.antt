-- The pairing goes call by call: cut after any call, it is the pairing of the calls up to there. Assumes nothing.
use Rattle.std.proofs.Common.{◌≡◌, ℕ, ◌-◌, List, [], ◌∷◌, ◌++◌, length, take, refl, ap}
use Rattle.kinds.specs.Kind.{Ops}
use Rattle.sharing.specs.Masks.{mask_of}
use Rattle.book.specs.States.{State, set_book, after}
use Rattle.privacy.specs.Pairing.{Side, other, Item, call_in, paired_strip, paired}
use Rattle.privacy.specs.Privacy.{OnePairing}

-- from any two books
cut : (o : Ops) (mask : List ℕ) (side : Side) (t u : State) (items more : List Item) (strips : List (List ℕ))
    → take (length items) (paired o mask side t u (items ++ more) strips) ≡ paired o mask side t u items (take (length items) strips)
cut o mask side t u [] more strips = refl
cut o mask side t u (i ∷ items) more [] = refl
cut o mask side t u (i ∷ items) more (strip ∷ strips) =
    let there : List ℕ = paired_strip o mask side t u i strip in
    ap (λ rest. there ∷ rest) (cut o mask side (after o t (call_in side i strip)) (after o u (call_in (other side) i there)) items more strips)

-- the promise One-pairing
pub one_pairing : OnePairing
one_pairing o n k group side items more strips = cut o (mask_of o group (k - 1)) side (set_book n k) (set_book n k) items more strips
