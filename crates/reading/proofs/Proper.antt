-- Every proper line is read. Assumes nothing.
use Rattle.std.proofs.Common.{◌≡◌, ℕ, ◌+◌, ◌<◌, ◌≤◌, true, false, List, [], ◌∷◌, ◌++◌, length, sym, refl, ap, ◌∙◌, append_assoc, append-nil, arith}
use Rattle.std.specs.List.{flat_map}
use Rattle.std.proofs.lemmas.List.{length-append}
use Rattle.reading.specs.Forms.{Form, Piece, number, numbers, is_letter, is_digit, is_number, all, begins, spaced, spell_item, opened, Each, Number, ProperPiece}
use Rattle.reading.specs.Read.{form_read, after_item, at_item, at_list, at_number, run, read, form_of, with_item}
use Rattle.reading.specs.Laws.{ProperIsRead}
use Rattle.reading.proofs.Forward.{run_letters, word_ends, run_number, run_listed, number_ends, listed_ends}

-- a number is a run of digits
pub number_some : (ds : List ℕ) → is_number ds ≡ true → 0 < length ds
number_some ds v = grind arith

pub number_digits : (ds : List ℕ) → is_number ds ≡ true → all is_digit ds ≡ true
number_digits ds v = grind arith

-- the numbers n ∷ ns behind ms, up to the ")" and what follows
listed : (f : Form) (ms : List (List ℕ)) (n : List ℕ) (ns : List (List ℕ)) (c : ℕ) (r : List ℕ) → Each Number (n ∷ ns) → length ms + length (n ∷ ns) ≤ 9 → (d : ℕ) × (run (at_number f ms) c (spaced (n ∷ ns) ++ 41 ∷ r) ≡ run (after_item (with_item f (numbers (ms ++ n ∷ ns)))) d r)
listed f ms n [] c r v h = (
  c + length n + 1,
  run_listed f ms n c (41 ∷ r) (number_some n v.0) (number_digits n v.0)
      ∙ listed_ends f ms n (c + length n) (41 ∷ r) v.0 (omega arith) refl,
)
listed f ms n (m ∷ ns) c r v h =
    let more = listed f (ms ++ n ∷ []) m ns (c + length n + 1) r v.1 (simp length-append (omega arith)) in (
      more.0,
      ap (λ l. run (at_number f ms) c l) (append_assoc n (32 ∷ spaced (m ∷ ns)) (41 ∷ r))
          ∙ run_listed f ms n c (32 ∷ spaced (m ∷ ns) ++ 41 ∷ r) (number_some n v.0) (number_digits n v.0)
          ∙ listed_ends f ms n (c + length n) (32 ∷ spaced (m ∷ ns) ++ 41 ∷ r) v.0 (omega arith) refl
          ∙ more.1
          ∙ ap (λ l. run (after_item (with_item f (numbers l))) more.0 r) (append_assoc ms (n ∷ []) (m ∷ ns)),
    )

-- at-list and at-number differ only at a ")"
at_first : (f : Form) (n r : List ℕ) (c : ℕ) → 0 < length n → all is_digit n ≡ true → run (at_list f) c (n ++ r) ≡ run (at_number f []) c (n ++ r)
at_first f [] r c h a = absurd (omega arith)
at_first f (b ∷ n) r c h a = grind arith

spaced_first : (n : List ℕ) (ns : List (List ℕ)) (t : List ℕ) → (u : List ℕ) × (spaced (n ∷ ns) ++ t ≡ n ++ u)
spaced_first n [] t = (t, refl)
spaced_first n (m ∷ ns) t = (32 ∷ spaced (m ∷ ns) ++ t, append_assoc n (32 ∷ spaced (m ∷ ns)) t)

list_read : (f : Form) (ns : List (List ℕ)) (c : ℕ) (r : List ℕ) → Each Number ns → length ns ≤ 9 → (d : ℕ) × (run (at_list f) c (spaced ns ++ 41 ∷ r) ≡ run (after_item (with_item f (numbers ns))) d r)
list_read f [] c r v h = (c + 1, refl)
list_read f (n ∷ ns) c r v h =
    let first = spaced_first n ns (41 ∷ r) in
    let all_of = listed f [] n ns c r v (omega arith) in (
      all_of.0,
      ap (λ l. run (at_list f) c l) first.1
          ∙ at_first f n first.0 c (number_some n v.0) (number_digits n v.0)
          ∙ ap (λ l. run (at_number f []) c l) (sym first.1)
          ∙ all_of.1,
    )

abbrev tail_of : List ℕ → List ℕ
tail_of rest = 41 ∷ 10 ∷ rest

-- no digit begins what follows an item
after_no_digit : (ps : List Piece) (rest : List ℕ) → begins is_digit (flat_map spell_item ps ++ tail_of rest) ≡ false
after_no_digit [] rest = refl
after_no_digit (p ∷ ps) rest = refl

items_read : (ps : List Piece) (f : Form) (c : ℕ) (rest : List ℕ) → Each ProperPiece ps → run (after_item f) c (flat_map spell_item ps ++ tail_of rest) ≡ form_read (record { word = f.word; items = f.items ++ ps }) rest
items_read [] f c rest v = ap (λ l. form_read (record { word = f.word; items = l }) rest) (sym (append-nil f.items))
items_read (number ds ∷ ps) f c rest v =
    ap (λ l. run (at_item f) (c + 1) l) (append_assoc ds (flat_map spell_item ps) (tail_of rest))
    ∙ run_number f ds (c + 1) (flat_map spell_item ps ++ tail_of rest) (number_some ds v.0) (number_digits ds v.0)
    ∙ number_ends f ds (c + 1 + length ds) (flat_map spell_item ps ++ tail_of rest) v.0 (after_no_digit ps rest)
    ∙ items_read ps (with_item f (number ds)) (c + 1 + length ds) rest v.1
    ∙ ap (λ l. form_read (record { word = f.word; items = l }) rest) (append_assoc f.items (number ds ∷ []) ps)
items_read (numbers ns ∷ ps) f c rest v =
    let whole = list_read f ns (c + 1 + 1) (flat_map spell_item ps ++ tail_of rest) v.0.1 v.0.0 in
    ap (λ l. run (at_list f) (c + 1 + 1) l) (append_assoc (spaced ns ++ 41 ∷ []) (flat_map spell_item ps) (tail_of rest) ∙ append_assoc (spaced ns) (41 ∷ []) (flat_map spell_item ps ++ tail_of rest))
    ∙ whole.1
    ∙ items_read ps (with_item f (numbers ns)) whole.0 rest v.1
    ∙ ap (λ l. form_read (record { word = f.word; items = l }) rest) (append_assoc f.items (numbers ns ∷ []) ps)

after_no_letter : (ps : List Piece) (rest : List ℕ) → begins is_letter (flat_map spell_item ps ++ tail_of rest) ≡ false
after_no_letter [] rest = refl
after_no_letter (p ∷ ps) rest = refl

pub proper_is_read : ProperIsRead
proper_is_read f rest v =
    let w = f.word in
    let more = flat_map spell_item f.items ++ tail_of rest in
    ap read (append_assoc (opened f) (41 ∷ 10 ∷ []) rest ∙ append_assoc (40 ∷ w) (flat_map spell_item f.items) (tail_of rest))
    ∙ run_letters w [] 2 more v.0.2 (omega arith)
    ∙ word_ends w (2 + length w) more v.0.0 (after_no_letter f.items rest)
    ∙ items_read f.items (form_of w) (2 + length w) rest v.1
