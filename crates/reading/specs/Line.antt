-- What the reader answers of a line. Assumes nothing.
use Rattle.std.specs.Prelude.{◌≡◌, ℕ, ◌+◌, ◌<◌, cond, List, map, length, Some, None, Ok, Err, vec_items, Option, Result, Vec, nat_lt}
use Rattle.reading.specs.Forms.{Form}
use Rattle.reading.specs.Read.{Reading, form_read, faulted, read}
use Rattle.reading.specs.Told.{Told, cause_number, told, tokens_of}
use Rattle.reading.specs.declared.token.ReadError.{ReadError}
use Rattle.reading.specs.declared.token.ReadError.TheVariants.{Fault, TooLong, NoMemory}
use Rattle.reading.specs.declared.token.Token.{Token}

-- The most that the number of a line and the bytes from it on come to: a sheet has at most 65,536 bytes, and each line
-- has some.
abbrev pub most_left : ℕ
most_left = 65537

-- the tokens tell the form that is read from the bytes, and rest is left
abbrev pub LineRead : List ℕ → ℕ → List Token → List ℕ → Type 0
LineRead bytes line ts rest = (f : Form) × (read bytes ≡ form_read f rest) × (map told ts ≡ tokens_of line f)

-- the fault is the one at which the reading of the bytes ends
abbrev pub LineRefused : List ℕ → ℕ → ReadError → Type 0
LineRefused bytes line (Fault e) = (read bytes ≡ faulted (cause_number e.cause) e.place.column) × (e.place.line ≡ line)
LineRefused bytes line TooLong = most_left < line + length bytes
LineRefused bytes line NoMemory = Unit {0}

-- what a line is answered with: its tokens and what is left of the sheet, its fault, or that the sheet is too long
pub data LineAnswer : Type 0 where
  line_tokens : (ts : List Told) (rest : List ℕ) → LineAnswer
  line_fault : (cause line column : ℕ) → LineAnswer
  too_long : LineAnswer

-- the answer that the reading of the line with the number gives
abbrev pub reading_answer : ℕ → Reading → LineAnswer
reading_answer line (form_read f rest) = line_tokens (tokens_of line f) rest
reading_answer line (faulted cause column) = line_fault cause line column

-- the answer where the bytes are left, of which the first line has the number
abbrev pub line_answer : List ℕ → ℕ → LineAnswer
line_answer bytes line = cond (nat_lt most_left (line + length bytes)) too_long (reading_answer line (read bytes))

-- what the code's error says; want of memory says nothing
abbrev pub error_told : ReadError → Option LineAnswer
error_told (Fault e) = Some (line_fault (cause_number e.cause) e.place.line e.place.column)
error_told TooLong = Some too_long
error_told NoMemory = None

-- what the code's answer says, where rest is then left
abbrev pub answer_told : {Z : Type 0} → Result (Vec Token Z) ReadError → List ℕ → Option LineAnswer
answer_told (Ok v) rest = Some (line_tokens (map told (vec_items v)) rest)
answer_told (Err e) rest = error_told e

-- want of memory aside, an answer is as defined; a sheet that is too long wants no memory
abbrev pub AsDefined : Option LineAnswer → LineAnswer → Type 0
AsDefined (Some b) a = b ≡ a
AsDefined None a = a ≡ too_long → ⊥
