-- The turns of the loop that takes a list's numbers: those so far, and the values of the parts that are left. Assumes nothing.
use Rattle.std.proofs.Common.{◌≡◌, ℕ, ◌+◌, ◌<◌, ◌≤◌, cond, eqb, leb, ltb, List, [], ◌∷◌, ◌++◌, length, get_or, drop, Some, None, Option, sym, refl, ap, ◌∙◌, ap₂, append_assoc, append-nil, arith}
use Rattle.std.proofs.lemmas.List.{at_drop_more, at_drop_all, length-append}
use Rattle.std.proofs.lemmas.List.Splits.{length-slice_split}
use Rattle.std.proofs.lemmas.Bool.{cond_both, cond-false, cond-true, lt-leb, le-leb, ltb-false}
use Rattle.std.specs.List.{slice_split, onto_first}
use Rattle.reading.specs.Forms.{number_value}
use Rattle.forms.specs.Lists.{value_then, spaced_values, at_most_nine}

-- the bytes, cut at each space
abbrev pub parts : List ℕ → List (List ℕ)
parts bytes = slice_split (λ b. eqb b 32) bytes

abbrev pub values : List (List ℕ) → Option (List ℕ)
values [] = Some []
values (part ∷ rest) = value_then (number_value part) (values rest)

-- the parts, with digits in front of the first
abbrev with_front : List ℕ → List (List ℕ) → List (List ℕ)
with_front ds [] = ds ∷ []
with_front ds (part ∷ rest) = (ds ++ part) ∷ rest

no_front : (ps : List (List ℕ)) → 0 < length ps → with_front [] ps ≡ ps
no_front [] h = absurd (omega arith)
no_front (part ∷ rest) h = refl

one_more : (ds : List ℕ) (b : ℕ) (ps : List (List ℕ)) → with_front (ds ++ b ∷ []) ps ≡ with_front ds (onto_first b ps)
one_more ds b [] = refl
one_more ds b (part ∷ rest) = ap (λ l. l ∷ rest) (append_assoc ds (b ∷ []) part)

some_part : (bytes : List ℕ) → 0 < length (parts bytes)
some_part bytes = omega (arith, length-slice_split (λ b. eqb b 32) bytes)

-- the values of numbers with a space between them are those of the parts
values_of_parts : (ds bytes : List ℕ) → spaced_values ds bytes ≡ values (with_front ds (parts bytes))
values_of_parts ds [] = ap (λ l. value_then (number_value l) (Some [])) (sym (append-nil ds))
values_of_parts ds (b ∷ bs) =
    cond_both (eqb b 32) _ _
    (λ o. o ≡ values (with_front ds (cond (eqb b 32) ([] ∷ parts bs) (onto_first b (parts bs)))))
    (λ yes.
    ap₂ (λ l o. value_then (number_value l) o) (sym (append-nil ds)) (values_of_parts [] bs ∙ ap values (no_front (parts bs) (some_part bs)))
    ∙ sym (ap (λ ps. values (with_front ds ps)) (cond-true _ _ _ yes)))
    (λ no.
    values_of_parts (ds ++ b ∷ []) bs ∙ ap values (one_more ds b (parts bs))
    ∙ sym (ap (λ ps. values (with_front ds ps)) (cond-false _ _ _ no)))

-- values, and those behind them
abbrev pub behind : List ℕ → Option (List ℕ) → Option (List ℕ)
behind xs (Some vs) = Some (xs ++ vs)
behind xs None = None

-- the numbers xs and the parts from the place on give all the values
abbrev pub Leaves : List ℕ → List ℕ → ℕ → Type 0
Leaves bytes xs place = behind xs (values (drop place (parts bytes))) ≡ spaced_values [] bytes

none_behind : (o : Option (List ℕ)) → behind [] o ≡ o
none_behind (Some vs) = refl
none_behind None = refl

pub leaves_all : (bytes xs : List ℕ) → xs ≡ [] → Leaves bytes xs 0
leaves_all bytes xs none =
    ap (λ l. behind l (values (parts bytes))) none
    ∙ none_behind (values (parts bytes)) ∙ ap values (sym (no_front (parts bytes) (some_part bytes))) ∙ sym (values_of_parts [] bytes)

pub leaves_at : (bytes : List ℕ) {xs ys : List ℕ} {place next : ℕ} → ys ≡ xs → next ≡ place → Leaves bytes xs place → Leaves bytes ys next
leaves_at bytes p q h = ap₂ (λ l n. behind l (values (drop n (parts bytes)))) p q ∙ h

behind_one : (xs : List ℕ) (v : ℕ) (o : Option (List ℕ)) → behind xs (value_then (Some v) o) ≡ behind (xs ++ v ∷ []) o
behind_one xs v (Some vs) = ap Some (sym (append_assoc xs (v ∷ []) vs))
behind_one xs v None = refl

tenth : (xs : List ℕ) (o : Option ℕ) (p : Option (List ℕ)) → 9 ≤ length xs → at_most_nine (behind xs (value_then o p)) ≡ None
tenth xs (Some v) (Some vs) h =
    let sizes = length-append xs (v ∷ vs) in
    cond-false (leb (length (xs ++ v ∷ vs)) 9) _ _ (lt-leb (length (xs ++ v ∷ vs)) 9 (omega arith))
tenth xs (Some v) None h = refl
tenth xs None p h = refl

-- a turn at the part in the place
module _ (bytes xs : List ℕ) (place : ℕ) (part : List ℕ) (turn : (place < length (parts bytes)) × (part ≡ get_or (parts bytes) place part)) (inv : Leaves bytes xs place) where
  rest : Option (List ℕ)
  rest = values (drop (place + 1) (parts bytes))

  left : behind xs (value_then (number_value part) rest) ≡ spaced_values [] bytes
  unfolding rest
  left =
      ap (λ p. behind xs (value_then (number_value p) rest)) turn.1
      ∙ sym (at_drop_more (λ l. behind xs (values l)) (parts bytes) place part turn.0) ∙ inv

  pub no_number : None ≡ number_value part → None ≡ at_most_nine (spaced_values [] bytes)
  no_number e = ap at_most_nine (ap (λ o. behind xs (value_then o rest)) e ∙ left)

  pub no_room : 9 ≤ length xs → None ≡ at_most_nine (spaced_values [] bytes)
  no_room full = sym (tenth xs (number_value part) rest full) ∙ ap at_most_nine left

  pub after_number : (v : ℕ) → Some v ≡ number_value part → Leaves bytes (xs ++ v ∷ []) (place + 1)
  unfolding rest
  after_number v e = sym (behind_one xs v rest) ∙ ap (λ o. behind xs (value_then o rest)) e ∙ left

-- behind the last part
pub all_taken : (bytes xs : List ℕ) (place : ℕ) → place ≡ length (parts bytes) → length xs ≤ 9 → Leaves bytes xs place → Some xs ≡ at_most_nine (spaced_values [] bytes)
all_taken bytes xs place end few inv =
    sym (cond-true (leb (length xs) 9) (Some xs) None (le-leb (length xs) 9 few))
    ∙ ap (λ l. at_most_nine (Some l)) (sym (append-nil xs))
    ∙ ap at_most_nine (sym (at_drop_all (λ l. behind xs (values l)) (parts bytes) place (omega arith)) ∙ inv)

-- one number more, or none where there are nine
module _ (xs : List ℕ) (ys : List ℕ) where
  pub was_full : None ≡ cond (ltb (length xs) 9) (Some ys) None → 9 ≤ length xs
  was_full =
      cond_both (ltb (length xs) 9) (Some ys) None (λ o. None ≡ o → 9 ≤ length xs)
      (λ _ e. absurd (let z : ◌≡◌ {A = ℕ} 0 1 = cc in omega arith))
      (λ full _. ltb-false (length xs) 9 full)

  pub was_taken : (zs : List ℕ) → Some zs ≡ cond (ltb (length xs) 9) (Some ys) None → zs ≡ ys
  was_taken zs =
      cond_both (ltb (length xs) 9) (Some ys) None (λ o. Some zs ≡ o → zs ≡ ys)
      (λ _ e. cc)
      (λ _ e. absurd (let z : ◌≡◌ {A = ℕ} 0 1 = cc in omega arith))
