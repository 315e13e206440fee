-- What each part's reading does to the reading of the line. Assumes nothing.
use Rattle.std.proofs.Common.{◌≡◌, ℕ, ◌+◌, ◌-◌, ◌<◌, ◌≤◌, false, eqb, List, [], ◌∷◌, ◌++◌, length, take, drop, sym, refl, ap, ◌∙◌, append_assoc, arith, take-append-drop, length-take-le}
use Rattle.std.proofs.lemmas.List.{length-append}
use Rattle.reading.specs.Forms.{Form, number, numbers, is_letter, is_digit, begins, front, Number}
use Rattle.reading.specs.Read.{Reading, faulted, run, in_word, at_item, at_number, in_list, after_item, form_of, with_item}
use Rattle.reading.specs.Told.{cause_number}
use Rattle.reading.specs.Steps.{run_from, Passes, Took, Faults, WhyNoNumber}
use Rattle.reading.specs.declared.cursor.Cursor.{Cursor}
use Rattle.reading.specs.declared.token.Cause.{Cause}
use Rattle.reading.specs.declared.token.Cause.TheVariants.{Byte, Digits, TenthNumber}
use Rattle.reading.specs.declared.token.Part.{Part}
use Rattle.reading.specs.declared.token.ReadFault.{ReadFault}
use Rattle.reading.proofs.Forward.{past_number, run_letters, word_ends, word_empty, word_full, run_number, number_ends, number_wrong, run_listed, listed_ends, listed_wrong, listed_tenth}
use Rattle.reading.proofs.Fronts.{front_fits, front_passes, front_ends, front_within}
use Rattle.reading.proofs.Proper.{number_some, number_digits}

-- a fault that stands at m, on a's line
pub fault_at : (a m : Cursor) (e : ReadFault) (k : Cause) (r : Reading) → m.place.line ≡ a.place.line → e.place ≡ m.place → e.cause ≡ k → r ≡ faulted (cause_number k) m.place.column → Faults a e r
fault_at a m e k r l at is h = grind arith

-- how cursors follow one another
pub passes_on : (a b d : Cursor) (xs ys : List ℕ) → Passes a b xs → Passes b d ys → Passes a d (xs ++ ys)
passes_on a b d xs ys p q = grind (arith, append_assoc, length-append)

pub took : (a b : Cursor) (p : Part) (n : ℕ) → n ≤ length a.rest.now → p.bytes.now ≡ take n a.rest.now → b.rest.now ≡ drop n a.rest.now → p.place ≡ a.place → b.place.line ≡ a.place.line → b.place.column ≡ a.place.column + n → Took a b p
took a b p n h bytes rest place level moved = grind (arith, take-append-drop, length-take-le)

-- the word
pub word_none : (c : ℕ) (r : List ℕ) → front is_letter r ≡ 0 → run (in_word []) c r ≡ faulted 20 c
word_none c r e = grind (arith, word_empty, front_ends)

pub word_long : (c : ℕ) (r : List ℕ) → 8 < front is_letter r → run (in_word []) c r ≡ faulted 20 (c + 8)
word_long c r h =
    let w = front_within is_letter r 8 h in
    let fits = front_fits is_letter r in
    let size = length-take-le 8 r (omega arith) in
    ap (λ l. run (in_word []) c l) (sym (take-append-drop 8 r))
    ∙ run_letters (take 8 r) [] c (drop 8 r) w.0 (omega arith)
    ∙ ap (λ n. run (in_word (take 8 r)) (c + n) (drop 8 r)) size
    ∙ word_full (take 8 r) (c + 8) (drop 8 r) (omega arith) w.1

pub word_some : (c : ℕ) (r : List ℕ) (n : ℕ) → n ≡ front is_letter r → 0 < n → n ≤ 8 → run (in_word []) c r ≡ run (after_item (form_of (take n r))) (c + n) (drop n r)
word_some c r n is some few = grind (arith, take-append-drop n r, length-take-le n r, front_fits is_letter r, front_passes is_letter r, front_ends is_letter r, run_letters (take n r) [] c (drop n r), word_ends)

-- where no number begins
item_none : (f : Form) (c : ℕ) (r : List ℕ) → begins is_digit r ≡ false → begins (λ x. eqb x 40) r ≡ false → run (at_item f) c r ≡ faulted 20 c
item_none f c [] d o = refl
item_none f c (b ∷ bs) d o = grind arith

listed_none : (f : Form) (ns : List (List ℕ)) (c : ℕ) (r : List ℕ) → begins is_digit r ≡ false → run (at_number f ns) c r ≡ faulted 20 c
listed_none f ns c [] d = refl
listed_none f ns c (b ∷ bs) d = grind arith

back : (c n : ℕ) → c + n - n ≡ c
back c n = omega arith

-- a number that is an item
pub item_number : (f : Form) (a b : Cursor) (p : Part) → Took a b p → Number p.bytes.now → begins is_digit b.rest.now ≡ false → run_from (at_item f) a ≡ run_from (after_item (with_item f (number p.bytes.now))) b
item_number f a b p t v n = grind (arith, run_number, number_some, number_digits, number_ends)

pub item_fault : (f : Form) (a : Cursor) → begins (λ x. eqb x 40) a.rest.now ≡ false → (k : Cause) → WhyNoNumber a k → run_from (at_item f) a ≡ faulted (cause_number k) a.place.column
item_fault f a o Byte w = item_none f a.place.column a.rest.now w o
item_fault f a o Digits w = grind (arith, run_number, number_wrong)
item_fault f a o TenthNumber w = absurd w

-- a number of a list
module _ (f : Form) (ns : List (List ℕ)) (a b : Cursor) (p : Part) (t : Took a b p) (v : Number p.bytes.now) (n : begins is_digit b.rest.now ≡ false) where
  into_list : run_from (at_number f ns) a ≡ run (in_list f ns p.bytes.now) b.place.column b.rest.now
  into_list =
      ap (λ l. run (at_number f ns) a.place.column l) t.over.split
      ∙ run_listed f ns p.bytes.now a.place.column b.rest.now (number_some p.bytes.now v) (number_digits p.bytes.now v)
      ∙ ap (λ c. run (in_list f ns p.bytes.now) c b.rest.now) (sym t.over.moved)

  past : length ns < 9 → run_from (at_number f ns) a ≡ past_number f (ns ++ p.bytes.now ∷ []) b.place.column b.rest.now
  past h = into_list ∙ listed_ends f ns p.bytes.now b.place.column b.rest.now v h n

  pub list_more : (d : Cursor) → length ns < 9 → Passes b d (32 ∷ []) → run_from (at_number f ns) a ≡ run_from (at_number f (ns ++ p.bytes.now ∷ [])) d
  list_more d h s = grind (arith, past)

  pub list_closes : (d : Cursor) → length ns < 9 → Passes b d (41 ∷ []) → run_from (at_number f ns) a ≡ run_from (after_item (with_item f (numbers (ns ++ p.bytes.now ∷ [])))) d
  list_closes d h s = grind (arith, past)

  pub list_breaks : length ns < 9 → begins (λ x. eqb x 32) b.rest.now ≡ false → begins (λ x. eqb x 41) b.rest.now ≡ false → run_from (at_number f ns) a ≡ faulted 20 b.place.column
  list_breaks h s o = past h ∙ stuck b.rest.now s o
    where
      stuck : (r : List ℕ) → begins (λ x. eqb x 32) r ≡ false → begins (λ x. eqb x 41) r ≡ false → past_number f (ns ++ p.bytes.now ∷ []) b.place.column r ≡ faulted 20 b.place.column
      stuck [] s o = refl
      stuck (x ∷ xs) s o = grind arith

  pub list_tenth : 9 ≤ length ns → run_from (at_number f ns) a ≡ faulted 22 a.place.column
  list_tenth h = grind (arith, into_list, listed_tenth)

pub list_fault : (f : Form) (ns : List (List ℕ)) (a : Cursor) (k : Cause) → WhyNoNumber a k → run_from (at_number f ns) a ≡ faulted (cause_number k) a.place.column
list_fault f ns a Byte w = listed_none f ns a.place.column a.rest.now w
list_fault f ns a Digits w = grind (arith, run_listed, listed_wrong)
list_fault f ns a TenthNumber w = absurd w
