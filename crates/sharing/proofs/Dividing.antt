-- A round of divided differences over pairs of a seat and a value, and the pairs of two lists. Assumes nothing.
use Rattle.std.proofs.Common.{◌≡◌, ℕ, zero, suc, ◌+◌, ◌-◌, ◌<◌, ◌&&◌, eqb, List, [], ◌∷◌, map, length, get_or, drop, refl, sym, ap, ◌∙◌, ap₂, arith, option_map, zip, ◌++◌, append_assoc, append-nil, length-append, ◌⊎◌, inl, inr}
use Rattle.std.specs.List.{list_all}
use Rattle.std.proofs.lemmas.Bool.Decides.{nat_tests}
use Rattle.std.proofs.lemmas.List.{at_drop_more}
use Rattle.std.proofs.lemmas.Slice.Zip.{length-zip, firsts-zip, seconds-zip}
use Rattle.kinds.specs.Kind.{Ops, difference}
use Rattle.sharing.proofs.InPlace.{left_here}
use Rattle.sharing.specs.Rebuilding.{divided, fitted, all_zero}

-- a pair of a seat and a value, divided
abbrev pub divided_at : Ops → ℕ → ℕ → ℕ × ℕ → ℕ × ℕ
divided_at o s y p = (p.0, o.product (difference o p.1 y) (o.reciprocal p.0 s))

-- the first of the pairs that are left, divided
pub divided_more : (o : Ops) (s y : ℕ) (now was : List (ℕ × ℕ)) (i : ℕ) (v d : ℕ × ℕ) → i < length was → drop i now ≡ drop i was → v ≡ divided_at o s y (get_or now i d)
    → map (divided_at o s y) (drop i was) ≡ v ∷ map (divided_at o s y) (drop (i + 1) was)
divided_more o s y now was i v d inside left e =
    at_drop_more (map (divided_at o s y)) was i d inside
    ∙ ap (λ x. x ∷ map (divided_at o s y) (drop (i + 1) was)) (sym (e ∙ ap (divided_at o s y) (left_here d now was i left)))

pub seats-divided : (o : Ops) (s y : ℕ) (ps : List (ℕ × ℕ)) → map (λ (p : ℕ × ℕ). p.0) (map (divided_at o s y) ps) ≡ map (λ (p : ℕ × ℕ). p.0) ps
seats-divided o s y [] = refl
seats-divided o s y (p ∷ ps) = ap (λ ts. p.0 ∷ ts) (seats-divided o s y ps)

pub values-divided : (o : Ops) (s y : ℕ) (ps : List (ℕ × ℕ)) → map (λ (p : ℕ × ℕ). p.1) (map (divided_at o s y) ps) ≡ divided o s y (map (λ (p : ℕ × ℕ). p.0) ps) (map (λ (p : ℕ × ℕ). p.1) ps)
values-divided o s y [] = refl
values-divided o s y (p ∷ ps) = ap (λ zs. (divided_at o s y p).1 ∷ zs) (values-divided o s y ps)

-- whether no pair has a value but 0
pub none_valued : (ps : List (ℕ × ℕ)) → list_all (λ (p : ℕ × ℕ). eqb p.1 0) ps ≡ all_zero (map (λ (p : ℕ × ℕ). p.1) ps)
none_valued [] = refl
none_valued (p ∷ ps) = ap₂ ◌&&◌ (grind (arith, nat_tests)) (none_valued ps)

-- one round of the recursion
pub fitted_round : (o : Ops) (k s y : ℕ) (seats values seats' values' : List ℕ) → 0 < k → seats' ≡ seats → values' ≡ divided o s y seats values
    → fitted o k (s ∷ seats) (y ∷ values) ≡ option_map (λ c. difference o y (o.product (o.point s) c)) (fitted o (k - 1) seats' values')
fitted_round o zero s y seats values seats' values' h e d = absurd (omega arith)
fitted_round o (suc k) s y seats values seats' values' h e d =
    let less : k ≡ suc k - 1 = omega arith in
    ap (option_map (λ c. difference o y (o.product (o.point s) c)))
    (ap (λ j. fitted o j seats (divided o s y seats values)) less ∙ ap₂ (fitted o (suc k - 1)) (sym e) (sym d))

-- ---- the loop that pairs two lists

-- before the next pair is taken there is room for it
pub room : (ps : List (ℕ × ℕ)) (s y : ℕ) (ss ys seats shares : List ℕ) → ps ++ zip (s ∷ ss) (y ∷ ys) ≡ zip seats shares → length ps < length shares
room ps s y ss ys seats shares e = omega (arith, simp length-append at (ap length e), length-zip seats shares)

pub taken : (ps : List (ℕ × ℕ)) (s y : ℕ) (ss ys : List ℕ) → (ps ++ (s, y) ∷ []) ++ zip ss ys ≡ ps ++ zip (s ∷ ss) (y ∷ ys)
taken ps s y ss ys = append_assoc ps ((s, y) ∷ []) (zip ss ys)

zip_nil : (xs : List ℕ) → zip {K = ℕ} {X = ℕ} xs [] ≡ []
zip_nil [] = refl
zip_nil (x ∷ xs) = refl

pub all_taken : (ps : List (ℕ × ℕ)) (ss ys : List ℕ) → (ss ≡ []) ⊎ (ys ≡ []) → ps ++ zip ss ys ≡ ps
all_taken ps ss ys (inl e) = ap (λ xs. ps ++ zip xs ys) e ∙ append-nil ps
all_taken ps ss ys (inr e) = ap (λ xs. ps ++ xs) (ap (zip ss) e ∙ zip_nil ss) ∙ append-nil ps

-- the pairs of two lists of one length
pub fitted-zip : (o : Ops) (k : ℕ) (ps : List (ℕ × ℕ)) (seats shares : List ℕ) → ps ≡ zip seats shares → length shares ≡ length seats
    → fitted o k (map (λ (p : ℕ × ℕ). p.0) ps) (map (λ (p : ℕ × ℕ). p.1) ps) ≡ fitted o k seats shares
fitted-zip o k ps seats shares e long =
    ap₂ (fitted o k) (ap (map (λ (p : ℕ × ℕ). p.0)) e ∙ firsts-zip seats shares long) (ap (map (λ (p : ℕ × ℕ). p.1)) e ∙ seconds-zip seats shares long)
