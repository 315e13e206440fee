-- A list that is spelled from numbers has their values, and a form's items are judged as they are spelled. Assumes nothing.
use Rattle.std.proofs.Common.{◌≡◌, ℕ, ◌+◌, ◌-◌, ◌<◌, true, false, eqb, List, [], ◌∷◌, ◌++◌, map, length, get_or, Some, sym, refl, ap, ◌∙◌, ap₂, append_assoc, append-nil, arith}
use Rattle.std.proofs.lemmas.List.{length-append, length-map, take_at, get_or_push}
use Rattle.std.proofs.lemmas.Bool.{and_parts, and_from, cond-true, cond-false, ltb-true, leb-true, eq-eqb, ne_eqb, le-leb}
use Rattle.reading.specs.Forms.{Piece, number, numbers, all, is_digit, is_number, number_value, value_of, spaced, spell_piece, Each, Number, ProperPiece}
use Rattle.reading.specs.Told.{piece_at, placed}
use Rattle.forms.specs.Judging.{judged_as, JudgesForms}
use Rattle.forms.specs.Lists.{value_then, spaced_values, at_most_nine, ListIsValued}
use Rattle.forms.specs.Orders.{item_of, piece_item, one_if, many_if}

digits_of : (n : List ℕ) → Number n → (0 < length n) × (all is_digit n ≡ true)
digits_of n h =
    let a = and_parts _ _ h in
    let b = and_parts _ _ a.1 in
    let d = and_parts _ _ b.1 in
    (ltb-true 0 (length n) a.0, d.0)

valued : (n : List ℕ) → Number n → number_value n ≡ Some (value_of n)
valued n h = cond-true (is_number n) _ _ h

-- a digit is no space
no_space : (b : ℕ) → is_digit b ≡ true → eqb b 32 ≡ false
no_space b h =
    let low = leb-true 48 b (and_parts _ _ h).0 in
    ne_eqb b 32 (λ e. omega arith)

digits_pass : (n ds rest : List ℕ) → all is_digit n ≡ true → spaced_values ds (n ++ rest) ≡ spaced_values (ds ++ n) rest
digits_pass [] ds rest h = ap (λ l. spaced_values l rest) (sym (append-nil ds))
digits_pass (b ∷ n) ds rest h =
    let both = and_parts (is_digit b) (all is_digit n) h in
    cond-false _ _ _ (no_space b both.0) ∙ digits_pass n (ds ++ b ∷ []) rest both.1 ∙ ap (λ l. spaced_values l rest) (append_assoc ds (b ∷ []) n)

numbers_pass : (n : List ℕ) (ns : List (List ℕ)) → Number n → Each Number ns → spaced_values [] (spaced (n ∷ ns)) ≡ Some (map value_of (n ∷ ns))
numbers_pass n [] h hs =
    ap (spaced_values []) (sym (append-nil n)) ∙ digits_pass n [] [] (digits_of n h).1 ∙ ap (λ o. value_then o (Some [])) (valued n h)
numbers_pass n (m ∷ ns) h hs =
    digits_pass n [] (32 ∷ spaced (m ∷ ns)) (digits_of n h).1 ∙ ap₂ value_then (valued n h) (numbers_pass m ns hs.0 hs.1)

some_byte : (n : List ℕ) (ns : List (List ℕ)) → Number n → 0 < length (spaced (n ∷ ns))
some_byte n [] h = (digits_of n h).0
some_byte n (m ∷ ns) h = let some = (digits_of n h).0 in omega (arith, length-append n (32 ∷ spaced (m ∷ ns)))

pub list_is_valued : ListIsValued
list_is_valued [] few each = refl
list_is_valued (n ∷ ns) few each =
    let text = spaced (n ∷ ns) in
    let spelled = spell_piece (numbers (n ∷ ns)) in
    let some = some_byte n ns each.0 in
    let size = length-append text (41 ∷ []) in
    let within : length text ≡ length spelled - 2 = omega arith in
    let ends = eq-eqb (get_or spelled (length spelled - 1) 0) 41 (get_or_push (40 ∷ text) 41 0 _ (omega arith)) in
    cond-true _ _ _ (and_from _ _ (le-leb 2 (length spelled) (omega arith)) ends)
    ∙ cond-false _ _ _ (ne_eqb (length spelled) 2 (λ e. omega arith))
    ∙ ap (λ l. at_most_nine (spaced_values [] l)) (take_at text (41 ∷ []) _ within)
    ∙ ap at_most_nine (numbers_pass n ns each.0 each.1)
    ∙ cond-true _ _ _ (le-leb (length (map value_of (n ∷ ns))) 9 (omega (arith, length-map ns value_of)))

piece_is : (p : Piece) (line column : ℕ) → ProperPiece p → item_of (piece_at line column p) ≡ piece_item p
piece_is (number ds) line column h = ap one_if (valued ds h)
piece_is (numbers ns) line column h = ap many_if (list_is_valued ns h.0 h.1)

pieces_are : (ps : List Piece) (line column : ℕ) → Each ProperPiece ps → map item_of (placed line column ps) ≡ map piece_item ps
pieces_are [] line column h = refl
pieces_are (p ∷ ps) line column h = ap₂ ◌∷◌ (piece_is p line _ h.0) (pieces_are ps line _ h.1)

pub judges_forms : JudgesForms
judges_forms f line proper = ap (judged_as f.word) (pieces_are f.items line (2 + length f.word) proper.1)
