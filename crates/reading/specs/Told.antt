-- What tokens and faults say. Assumes nothing.
use Rattle.std.specs.Prelude.{ℕ, ◌+◌, List, [], ◌∷◌, length}
use Rattle.reading.specs.Forms.{Form, Piece, number, numbers, spell_piece}
use Rattle.reading.specs.declared.token.Token.{Token}
use Rattle.reading.specs.declared.token.Token.TheVariants.{Word, Number, List as Listed}
use Rattle.reading.specs.declared.token.Cause.{Cause}
use Rattle.reading.specs.declared.token.Cause.TheVariants.{Byte, Digits, TenthNumber}

abbrev pub cause_number : Cause → ℕ
cause_number Byte = 20
cause_number Digits = 21
cause_number TenthNumber = 22

-- a token as its bytes, line and column
pub data Told : Type 0 where
  word_at : (bytes : List ℕ) (line column : ℕ) → Told
  number_at : (bytes : List ℕ) (line column : ℕ) → Told
  list_at : (bytes : List ℕ) (line column : ℕ) → Told

abbrev pub told : Token → Told
told (Word p) = word_at p.bytes.now p.place.line p.place.column
told (Number p) = number_at p.bytes.now p.place.line p.place.column
told (Listed p) = list_at p.bytes.now p.place.line p.place.column

abbrev pub piece_at : ℕ → ℕ → Piece → Told
piece_at line column (number ds) = number_at ds line column
piece_at line column (numbers ns) = list_at (spell_piece (numbers ns)) line column

-- each item stands behind a space, and the first space is at the column
abbrev pub placed : ℕ → ℕ → List Piece → List Told
placed line column [] = []
placed line column (p ∷ ps) = piece_at line (column + 1) p ∷ placed line (column + 1 + length (spell_piece p)) ps

-- the tokens of a form that is spelled on the line
abbrev pub tokens_of : ℕ → Form → List Told
tokens_of line f = word_at f.word line 2 ∷ placed line (2 + length f.word) f.items
