-- The line's rule alone, by which every loose line goes through. Assumes nothing.
use Rattle.std.proofs.Common.{◌≡◌, ℕ, ◌+◌, ◌<◌, ◌≤◌, true, List, [], ◌∷◌, ◌++◌, length, sym, refl, ap, ◌∙◌, append_assoc, append-nil, arith}
use Rattle.std.specs.List.{flat_map}
use Rattle.std.proofs.lemmas.List.{length_push}
use Rattle.std.proofs.lemmas.Bool.{cond-true}
use Rattle.reading.specs.Forms.{Form, Piece, number, numbers, is_letter, is_digit, all, spaced, spell_item, spell, Each, Run, LoosePiece, Loose}
use Rattle.reading.specs.Read.{State, Step, goes, ends, refuses, before, in_word, after_item, at_item, in_number, at_list, at_number, in_list, step, form_of, with_item}
use Rattle.reading.proofs.Items.{with_items}

-- the steps behind a first one
abbrev pub fed : Step → (State → Step) → Step
fed (goes s) go = go s
fed (ends f) go = ends f
fed refuses go = refuses

-- the steps over the bytes
abbrev pub feed : State → List ℕ → Step
feed s [] = goes s
feed s (b ∷ bs) = fed (step s b) (λ t. feed t bs)

pub feed_on : (xs : List ℕ) (s t : State) (ys : List ℕ) → feed s xs ≡ goes t → feed s (xs ++ ys) ≡ feed t ys
feed_on [] s t ys e = grind arith
feed_on (x ∷ xs) s t ys e = grind (arith, feed_on xs)

feed_letters : (xs w r : List ℕ) → all is_letter xs ≡ true → length w + length xs ≤ 8 → feed (in_word w) (xs ++ r) ≡ feed (in_word (w ++ xs)) r
feed_letters [] w r a h = ap (λ l. feed (in_word l) r) (sym (append-nil w))
feed_letters (x ∷ xs) w r a h = grind (arith, feed_letters xs (w ++ x ∷ []) r, append_assoc w (x ∷ []) xs, length_push w x)

module _ (K : List ℕ → State) (one : (ds : List ℕ) (b : ℕ) → is_digit b ≡ true → step (K ds) b ≡ goes (K (ds ++ b ∷ []))) where
  feed_digits : (xs ds r : List ℕ) → all is_digit xs ≡ true → feed (K ds) (xs ++ r) ≡ feed (K (ds ++ xs)) r
  feed_digits [] ds r a = ap (λ l. feed (K l) r) (sym (append-nil ds))
  feed_digits (x ∷ xs) ds r a = grind (arith, feed_digits xs, append_assoc)

  feed_run : (s : State) → ((b : ℕ) → is_digit b ≡ true → step s b ≡ goes (K (b ∷ []))) → (xs r : List ℕ) → Run xs → feed s (xs ++ r) ≡ feed (K xs) r
  feed_run s first [] r h = absurd (let e = h.0 in omega arith)
  feed_run s first (x ∷ xs) r h = grind (arith, feed_digits)

abbrev Starts : Form → List (List ℕ) → State → Type 0
Starts f ms s = (b : ℕ) → is_digit b ≡ true → step s b ≡ goes (in_list f ms (b ∷ []))

-- the numbers n ∷ ns behind ms, up to the ")"
feed_numbers : (f : Form) (ms : List (List ℕ)) (s : State) → Starts f ms s → (n : List ℕ) (ns : List (List ℕ)) (r : List ℕ) → Each Run (n ∷ ns) → feed s (spaced (n ∷ ns) ++ 41 ∷ r) ≡ feed (after_item (with_item f (numbers (ms ++ n ∷ ns)))) r
feed_numbers f ms s first n [] r h = feed_run (in_list f ms) (λ ds b d. cond-true (is_digit b) _ _ d) s first n (41 ∷ r) h.0
feed_numbers f ms s first n (m ∷ ns) r h =
    ap (λ l. feed s l) (append_assoc n (32 ∷ spaced (m ∷ ns)) (41 ∷ r))
    ∙ feed_run (in_list f ms) (λ ds b d. cond-true (is_digit b) _ _ d) s first n (32 ∷ spaced (m ∷ ns) ++ 41 ∷ r) h.0
    ∙ feed_numbers f (ms ++ n ∷ []) (at_number f (ms ++ n ∷ [])) (λ b d. cond-true (is_digit b) _ _ d) m ns r h.1
    ∙ ap (λ l. feed (after_item (with_item f (numbers l))) r) (append_assoc ms (n ∷ []) (m ∷ ns))

feed_list : (f : Form) (ns : List (List ℕ)) (r : List ℕ) → Each Run ns → feed (at_list f) (spaced ns ++ 41 ∷ r) ≡ feed (after_item (with_item f (numbers ns))) r
feed_list f [] r h = refl
feed_list f (n ∷ ns) r h = feed_numbers f [] (at_list f) (λ b d. cond-true (is_digit b) _ _ d) n ns r h

abbrev line_end : List ℕ
line_end = 41 ∷ 10 ∷ []

number_over : (f : Form) (ds : List ℕ) (ps : List Piece) → feed (in_number f ds) (flat_map spell_item ps ++ line_end) ≡ feed (after_item (with_item f (number ds))) (flat_map spell_item ps ++ line_end)
number_over f ds [] = refl
number_over f ds (p ∷ ps) = refl

feed_items : (ps : List Piece) (f : Form) → Each LoosePiece ps → feed (after_item f) (flat_map spell_item ps ++ line_end) ≡ ends (with_items f ps)
feed_items [] f h = ap (λ l. ends (record { word = f.word; items = l })) (sym (append-nil f.items))
feed_items (number ds ∷ ps) f h =
    ap (λ l. feed (at_item f) l) (append_assoc ds (flat_map spell_item ps) line_end)
    ∙ feed_run (in_number f) (λ ds b d. cond-true (is_digit b) _ _ d) (at_item f) (λ b d. cond-true (is_digit b) _ _ d) ds (flat_map spell_item ps ++ line_end) h.0
    ∙ number_over f ds ps
    ∙ feed_items ps (with_item f (number ds)) h.1
    ∙ ap (λ l. ends (record { word = f.word; items = l })) (append_assoc f.items (number ds ∷ []) ps)
feed_items (numbers ns ∷ ps) f h =
    ap (λ l. feed (at_list f) l) (append_assoc (spaced ns ++ 41 ∷ []) (flat_map spell_item ps) line_end ∙ append_assoc (spaced ns) (41 ∷ []) (flat_map spell_item ps ++ line_end))
    ∙ feed_list f ns (flat_map spell_item ps ++ line_end) h.0
    ∙ feed_items ps (with_item f (numbers ns)) h.1
    ∙ ap (λ l. ends (record { word = f.word; items = l })) (append_assoc f.items (numbers ns ∷ []) ps)

word_over : (w : List ℕ) (ps : List Piece) → 0 < length w → feed (in_word w) (flat_map spell_item ps ++ line_end) ≡ feed (after_item (form_of w)) (flat_map spell_item ps ++ line_end)
word_over w [] h = grind arith
word_over w (p ∷ ps) h = grind arith

pub feed_line : (f : Form) → Loose f → feed before (spell f) ≡ ends f
feed_line f h =
    ap (feed before) (append_assoc (40 ∷ f.word) (flat_map spell_item f.items) line_end)
    ∙ feed_letters f.word [] (flat_map spell_item f.items ++ line_end) h.0.2 (omega (arith, h.0.1))
    ∙ word_over f.word f.items h.0.0
    ∙ feed_items f.items (form_of f.word) h.1
