-- What the reading of a part does, from one cursor to the next. Assumes nothing.
use Rattle.std.specs.Prelude.{◌≡◌, ℕ, ◌+◌, ◌<◌, false, List, [], ◌∷◌, ◌++◌, map, length, Ok, Err, Result, nat_eq}
use Rattle.reading.specs.Forms.{Form, Piece, Run, is_digit, is_number, Number, begins, numbers, spaced, spell_piece}
use Rattle.reading.specs.Read.{Reading, State, form_read, faulted, run, before, in_word, at_item, at_list, after_item, form_of, with_item}
use Rattle.reading.specs.Told.{Told, cause_number, told, word_at, piece_at, placed}
use Rattle.reading.specs.declared.cursor.Cursor.{Cursor}
use Rattle.reading.specs.declared.token.Cause.{Cause}
use Rattle.reading.specs.declared.token.Cause.TheVariants.{Byte, Digits, TenthNumber}
use Rattle.reading.specs.declared.token.Part.{Part}
use Rattle.reading.specs.declared.token.ReadError.{ReadError}
use Rattle.reading.specs.declared.token.ReadError.TheVariants.{Fault, TooLong, NoMemory}
use Rattle.reading.specs.declared.token.ReadFault.{ReadFault}
use Rattle.reading.specs.declared.token.Token.{Token}

-- the reading from a cursor on
abbrev pub run_from : State → Cursor → Reading
run_from s a = run s a.place.column a.rest.now

-- b stands behind the bytes, which begin at a
pub record Passes (a b : Cursor) (bytes : List ℕ) : Type 0 where
  pub split : a.rest.now ≡ bytes ++ b.rest.now
  pub moved : b.place.column ≡ a.place.column + length bytes
  pub level : b.place.line ≡ a.place.line

-- the byte is not the next
abbrev pub NotNext : ℕ → List ℕ → Type 0
NotNext byte bytes = begins (λ x. nat_eq x byte) bytes ≡ false

-- the part between two cursors
pub record Took (a b : Cursor) (p : Part) : Type 0 where
  pub over : Passes a b p.bytes.now
  pub place : p.place ≡ a.place

-- the fault at which a reading of a's line ends
pub record Faults (a : Cursor) (e : ReadFault) (r : Reading) : Type 0 where
  pub line : e.place.line ≡ a.place.line
  pub ends : r ≡ faulted (cause_number e.cause) e.place.column

abbrev pub WordRead : Cursor → Cursor → Result Part ReadFault → Type 0
WordRead a b (Ok p) = Took a b p × (run_from (in_word []) a ≡ run_from (after_item (form_of p.bytes.now)) b)
WordRead a b (Err e) = Faults a e (run_from (in_word []) a)

-- a whole run of digits at a, which is a number or is not
abbrev pub BadDigits : Cursor → Type 0
BadDigits a = (ds rest : List ℕ) × (a.rest.now ≡ ds ++ rest) × Run ds × (is_number ds ≡ false) × (begins is_digit rest ≡ false)

abbrev pub WhyNoNumber : Cursor → Cause → Type 0
WhyNoNumber a Byte = begins is_digit a.rest.now ≡ false
WhyNoNumber a Digits = BadDigits a
WhyNoNumber a TenthNumber = ⊥

abbrev pub NumberRead : Cursor → Cursor → Result Part ReadFault → Type 0
NumberRead a b (Ok p) = Took a b p × Number p.bytes.now × (begins is_digit b.rest.now ≡ false)
NumberRead a b (Err e) = (e.place ≡ a.place) × WhyNoNumber a e.cause

-- the numbers of a list, from behind its "(" to behind its ")"
abbrev pub ListRead : Cursor → Cursor → Result (Unit {0}) ReadFault → Type 0
ListRead a b (Ok _) =
    (ns : List (List ℕ)) × Passes a b (spaced ns ++ 41 ∷ []) × ((f : Form) → run_from (at_list f) a ≡ run_from (after_item (with_item f (numbers ns))) b)
ListRead a b (Err e) = (f : Form) → Faults a e (run_from (at_list f) a)

-- an item, from behind its space
abbrev pub ItemRead : Cursor → Cursor → Result Token ReadFault → Type 0
ItemRead a b (Ok t) =
    (p : Piece) × (told t ≡ piece_at a.place.line a.place.column p) × Passes a b (spell_piece p) × ((f : Form) → run_from (at_item f) a ≡ run_from (after_item (with_item f p)) b)
ItemRead a b (Err e) = (f : Form) → Faults a e (run_from (at_item f) a)

-- the tokens with which a form is told, where its line begins at the column
abbrev pub tokens_from : ℕ → ℕ → Form → List Told
tokens_from line column f = word_at f.word line (column + 1) ∷ placed line (column + 1 + length f.word) f.items

-- a whole line
abbrev pub TokensRead : Cursor → Cursor → List Token → Type 0
TokensRead a b ts =
    (f : Form) × (run_from before a ≡ form_read f b.rest.now) × (map told ts ≡ tokens_from a.place.line a.place.column f) × (b.place.line ≡ a.place.line) × (a.place.column < b.place.column)

abbrev pub LineFaults : Cursor → ReadError → Type 0
LineFaults a (Fault e) = Faults a e (run_from before a)
LineFaults a TooLong = ⊥
LineFaults a NoMemory = Unit {0}
