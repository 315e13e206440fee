-- Tests of a list element by element: the steps of a loop, where what is left decides, and the tests that the library
-- makes of a whole list. Assumes nothing.
use Rattle.std.proofs.Common.{◌≡◌, ℕ, ◌+◌, ◌<◌, ◌≤◌, Bool, ◌&&◌, ◌||◌, eqb, List, [], ◌∷◌, length, get_or, drop, nat_lt, refl, sym, ap, ◌∙◌, ap₂, arith}
use Rattle.std.specs.List.{list_all, list_any}
use Rattle.std.proofs.lemmas.List.{at_drop_more, at_drop_all}
use Rattle.std.proofs.lemmas.Bool.Decides.{nat_tests}
use Rattle.sharing.specs.Rebuilding.{all_below, holds}

-- F of what is left, once an element has passed or failed the test that F makes of it; d is any default
module _ {X : Type 0} (d : X) (F : List X → Bool) (xs : List X) (i : ℕ) (inside : i < length xs) (inv : F (drop i xs) ≡ F xs) where
  pub passed : F (get_or xs i d ∷ drop (i + 1) xs) ≡ F (drop (i + 1) xs) → F (drop (i + 1) xs) ≡ F xs
  passed test = sym (at_drop_more F xs i d inside ∙ test) ∙ inv

  pub failed : {b : Bool} → F (get_or xs i d ∷ drop (i + 1) xs) ≡ b → b ≡ F xs
  failed test = sym (at_drop_more F xs i d inside ∙ test) ∙ inv

pub ended : {X : Type 0} (F : List X → Bool) (xs : List X) (i : ℕ) → length xs ≤ i → F (drop i xs) ≡ F xs → F [] ≡ F xs
ended F xs i out inv = sym (at_drop_all F xs i out) ∙ inv

pub list_all-all_below : (size : ℕ) (codes : List ℕ) → list_all (λ c. nat_lt c size) codes ≡ all_below size codes
list_all-all_below size [] = refl
list_all-all_below size (c ∷ cs) = ap (λ t. nat_lt c size && t) (list_all-all_below size cs)

pub list_any-holds : (seat : ℕ) (seats : List ℕ) → list_any (λ s. eqb s seat) seats ≡ holds seat seats
list_any-holds seat [] = refl
list_any-holds seat (s ∷ seats) = ap₂ ◌||◌ (grind (arith, nat_tests)) (list_any-holds seat seats)
