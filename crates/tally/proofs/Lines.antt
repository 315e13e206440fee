-- The reading of a sheet takes the first of the lines that the sheet is cut into, no more and no less. Assumes nothing.
use Rattle.std.proofs.Common.{◌≡◌, ℕ, ◌+◌, ◌<◌, Bool, true, false, cond, ◌&&◌, eqb, ltb, leb, List, [], ◌∷◌, length, sym, refl, ap, subst, arith}
use Rattle.std.proofs.lemmas.List.{length-append}
use Rattle.std.proofs.lemmas.Bool.{eqb-true, leb-true, ne_eqb, and_parts, both_ways, cond_both}
use Rattle.reading.specs.Forms.{Form, is_letter, is_digit, is_number, opened, spell}
use Rattle.reading.specs.Laws.{ReadSpells}
use Rattle.reading.specs.Read.{Reading, State, Step, faulted, form_read, goes, ends, refuses, before, in_word, after_item, at_item, in_number, at_list, at_number, in_list, closed, step, run, read, judged, onward}
use Rattle.tally.specs.Desks.{Desk}
use Rattle.tally.specs.Sheets.{longer, cut, form_turn, turn_text, lines_text}
use Rattle.tally.specs.Texts.{fault_text, reader_fault}

-- byte 10 leads to no further state, and no other byte ends a form
abbrev Fits : ℕ → Step → Type 0
Fits b (goes t) = eqb b 10 ≡ false
Fits b (ends f) = eqb b 10 ≡ true
Fits b refuses = Unit {0}

is_other : (b n : ℕ) → eqb n 10 ≡ false → eqb b n ≡ true → eqb b 10 ≡ false
is_other b n h e = subst (λ x. eqb x 10 ≡ false) (sym (eqb-true b n e)) h

is_above : (b n : ℕ) (q : Bool) → 10 < n → (leb n b && q) ≡ true → eqb b 10 ≡ false
is_above b n q h e =
    let low = leb-true n b (and_parts _ _ e).0 in
    ne_eqb b 10 (λ z. omega arith)

goes_fit : (b : ℕ) (p : Bool) (t : State) (x : Step) → (p ≡ true → eqb b 10 ≡ false) → Fits b x → Fits b (cond p (goes t) x)
goes_fit b p t x h k = cond_both p (goes t) x (Fits b) h (λ _. k)

digit_fits : (b : ℕ) (t : State) (x : Step) → Fits b x → Fits b (cond (is_digit b) (goes t) x)
digit_fits b t x k = goes_fit b (is_digit b) t x (is_above b 48 _ (omega arith)) k

byte_fits : (b n : ℕ) (t : State) (x : Step) → eqb n 10 ≡ false → Fits b x → Fits b (cond (eqb b n) (goes t) x)
byte_fits b n t x h k = goes_fit b (eqb b n) t x (is_other b n h) k

next_fits : (b : ℕ) (t u : State) → Fits b (cond (eqb b 32) (goes t) (cond (eqb b 41) (goes u) refuses))
next_fits b t u = byte_fits b 32 t _ refl (byte_fits b 41 u refuses refl tt)

fits : (s : State) (b : ℕ) → Fits b (step s b)
fits before b = byte_fits b 40 _ _ refl tt
fits (in_word w) b =
    cond_both (is_letter b) _ _ (Fits b)
    (λ l. goes_fit b (ltb (length w) 8) _ _ (λ _. is_above b 97 _ (omega arith) l) tt)
    (λ _. cond_both (ltb 0 (length w)) _ _ (Fits b) (λ _. next_fits b _ _) (λ _. tt))
fits (after_item f) b = next_fits b _ _
fits (at_item f) b = digit_fits b _ _ (byte_fits b 40 _ _ refl tt)
fits (in_number f ds) b = digit_fits b _ _ (next_fits b _ _)
fits (at_list f) b = digit_fits b _ _ (byte_fits b 41 _ _ refl tt)
fits (at_number f ns) b = digit_fits b _ _ tt
fits (in_list f ns ds) b = digit_fits b _ _ (next_fits b _ _)
fits (closed f) b = cond_both (eqb b 10) _ _ (Fits b) (λ e. e) (λ _. tt)

-- the first line, and the others
abbrev first : List (List ℕ) → List ℕ
first [] = []
first (l ∷ ls) = l

abbrev others : List (List ℕ) → List (List ℕ)
others [] = []
others (l ∷ ls) = ls

-- r is the reading of a sheet, and q that of its first line alone; ls are the other lines
abbrev Alike : List (List ℕ) → Reading → Reading → Type 0
Alike ls (form_read f rest) q = (q ≡ form_read f []) × (ls ≡ cut rest)
Alike ls (faulted cause column) q = q ≡ faulted cause column

cond_alike : (p : Bool) (ls : List (List ℕ)) (r q u v : Reading) → Alike ls r q → Alike ls u v → Alike ls (cond p r u) (cond p q v)
cond_alike true ls r q u v h k = h
cond_alike false ls r q u v h k = k

judged_alike : (s : State) (c : ℕ) (ls : List (List ℕ)) (r q : Reading) → Alike ls r q → Alike ls (judged s c r) (judged s c q)
judged_alike before c ls r q h = h
judged_alike (in_word w) c ls r q h = h
judged_alike (after_item f) c ls r q h = h
judged_alike (at_item f) c ls r q h = h
judged_alike (in_number f ds) c ls r q h = cond_alike (is_number ds) ls r q _ _ h refl
judged_alike (at_list f) c ls r q h = h
judged_alike (at_number f ns) c ls r q h = h
judged_alike (in_list f ns ds) c ls r q h = cond_alike (is_number ds) ls _ _ _ _ (cond_alike (ltb (length ns) 9) ls r q _ _ h refl) refl
judged_alike (closed f) c ls r q h = h

-- the reading behind a step
abbrev then-run : Step → ℕ → List ℕ → Reading
then-run x c bs = onward x c bs (λ t. run t (c + 1) bs)

-- the same byte in front
first_alike : (s : State) (c b : ℕ) (bs ts : List ℕ) (ls : List (List ℕ)) → Alike ls (then-run (step s b) c bs) (then-run (step s b) c ts) → Alike ls (run s c (b ∷ bs)) (run s c (b ∷ ts))
first_alike s c b bs ts ls h = cond_alike (is_digit b) ls _ _ _ _ h (judged_alike s c ls _ _ h)

longer_alike : (s : State) (c b : ℕ) (bs : List ℕ) (ls : List (List ℕ)) → Alike (others ls) (then-run (step s b) c bs) (then-run (step s b) c (first ls)) → Alike (others (longer b ls)) (run s c (b ∷ bs)) (run s c (first (longer b ls)))
longer_alike s c b bs [] h = first_alike s c b bs [] [] h
longer_alike s c b bs (l ∷ ls) h = first_alike s c b bs l ls h

-- byte 10, behind which the line alone has nothing
end_alike : (b c : ℕ) (bs : List ℕ) (x : Step) → eqb b 10 ≡ true → Fits b x → Alike (cut bs) (then-run x c bs) (then-run x c [])
end_alike b c bs (goes t) e h = absurd (both_ways (eqb b 10) h e)
end_alike b c bs (ends f) e h = (refl, refl)
end_alike b c bs refuses e h = refl

-- any other byte
on_alike : (b c : ℕ) (bs ts : List ℕ) (ls : List (List ℕ)) (x : Step) → eqb b 10 ≡ false → Fits b x → ((t : State) → Alike ls (run t (c + 1) bs) (run t (c + 1) ts)) → Alike ls (then-run x c bs) (then-run x c ts)
on_alike b c bs ts ls (goes t) e h k = k t
on_alike b c bs ts ls (ends f) e h k = absurd (both_ways (eqb b 10) e h)
on_alike b c bs ts ls refuses e h k = refl

-- the first line alone is read as the sheet is
run_alike : (bs : List ℕ) (s : State) (c : ℕ) → Alike (others (cut bs)) (run s c bs) (run s c (first (cut bs)))
run_alike [] s c = judged_alike s c [] (faulted 20 c) _ refl
run_alike (b ∷ bs) s c =
    cond_both (eqb b 10) _ _ (λ ls. Alike (others ls) (run s c (b ∷ bs)) (run s c (first ls)))
    (λ e. first_alike s c b bs [] (cut bs) (end_alike b c bs (step s b) e (fits s b)))
    (λ e. longer_alike s c b bs (cut bs) (on_alike b c bs (first (cut bs)) (others (cut bs)) (step s b) e (fits s b) (λ t. run_alike bs t (c + 1))))

read_alike : (bytes : List ℕ) (r : Reading) → read bytes ≡ r → Alike (others (cut bytes)) r (read (first (cut bytes)))
read_alike bytes r e = subst (λ x. Alike (others (cut bytes)) x (read (first (cut bytes)))) e (run_alike bytes before 1)

-- a line that is read is cut off the sheet whole
pub read_step : (d : Desk) (line : ℕ) (bytes : List ℕ) (f : Form) (rest : List ℕ) → read bytes ≡ form_read f rest
    → lines_text d line (cut bytes) ≡ turn_text line (form_turn d f) (λ e. lines_text e (line + 1) (cut rest))
read_step d line bytes f rest e =
    let h = read_alike bytes (form_read f rest) e in
    taken (cut bytes) h.0 h.1
  where
    taken : (ls : List (List ℕ)) → read (first ls) ≡ form_read f [] → others ls ≡ cut rest → lines_text d line ls ≡ turn_text line (form_turn d f) (λ e. lines_text e (line + 1) (cut rest))
    taken [] h o = absurd (let z : ◌≡◌ {A = ℕ} 0 1 = cc in omega arith)
    taken (l ∷ ls) h o = rw (h, lines_text) (ap (λ m. turn_text line (form_turn d f) (λ e. lines_text e (line + 1) m)) o)

-- some bytes are cut into some lines
some_line : (bytes : List ℕ) → 0 < length bytes → 0 < length (cut bytes)
some_line [] h = h
some_line (b ∷ bs) h = cond_both (eqb b 10) _ _ (λ (ls : List (List ℕ)). 0 < length ls) (λ _. omega arith) (λ _. some (cut bs))
  where
    some : (ls : List (List ℕ)) → 0 < length (longer b ls)
    some [] = omega arith
    some (l ∷ ls) = omega arith

-- a line that is not read is refused as it stands in the sheet
pub fault_step : (d : Desk) (line : ℕ) (bytes : List ℕ) (cause column : ℕ) → 0 < length bytes → read bytes ≡ faulted cause column
    → lines_text d line (cut bytes) ≡ fault_text (reader_fault line column cause)
fault_step d line bytes cause column some e = refused (cut bytes) (some_line bytes some) (read_alike bytes (faulted cause column) e)
  where
    refused : (ls : List (List ℕ)) → 0 < length ls → read (first ls) ≡ faulted cause column → lines_text d line ls ≡ fault_text (reader_fault line column cause)
    refused [] h r = absurd (omega arith)
    refused (l ∷ ls) h r = rw (r, lines_text)

-- a line has some bytes
pub shorter : ReadSpells → (bytes : List ℕ) (f : Form) (rest : List ℕ) → read bytes ≡ form_read f rest → length rest < length bytes
shorter spells bytes f rest e =
    let size = ap length (spells bytes f rest e).0 in
    omega (arith, length-append (spell f) rest, length-append (opened f) (41 ∷ 10 ∷ []))
