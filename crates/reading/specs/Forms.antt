-- The forms of a tally sheet, how a form is spelled as a line, and which forms are proper. Assumes nothing.
use Rattle.std.specs.Prelude.{◌≡◌, ℕ, suc, ◌+◌, ◌-◌, ◌*◌, ◌^◌, ◌<◌, ◌≤◌, Bool, true, false, cond, not, ◌&&◌, List, [], ◌∷◌, ◌++◌, length, Some, None, Option, ◌==◌, nat_le, nat_lt}
use Rattle.std.specs.List.{flat_map}

-- the most bytes of a sheet, letters of a word, digits of a number and numbers of a list
abbrev pub most_bytes : ℕ
most_bytes = 65536

abbrev pub most_letters : ℕ
most_letters = 8

abbrev pub most_digits : ℕ
most_digits = 10

abbrev pub most_numbers : ℕ
most_numbers = 9

-- the bytes between and around the parts of a line: " ", "(", ")" and the end of the line
abbrev pub space : ℕ
space = 32

abbrev pub opening : ℕ
opening = 40

abbrev pub closing : ℕ
closing = 41

abbrev pub line_end : ℕ
line_end = 10

-- a number, or a list of numbers; a number stands as its digits' bytes
pub data Piece : Type 0 where
  number : List ℕ → Piece
  numbers : List (List ℕ) → Piece

pub record Form : Type 0 where
  pub word : List ℕ
  pub items : List Piece

abbrev pub is_letter : ℕ → Bool
is_letter b = nat_le 97 b && nat_le b 122

abbrev pub is_digit : ℕ → Bool
is_digit b = nat_le 48 b && nat_le b 57

abbrev pub all : (ℕ → Bool) → List ℕ → Bool
all p [] = true
all p (b ∷ bs) = p b && all p bs

-- whether the first byte passes the test
abbrev pub begins : (ℕ → Bool) → List ℕ → Bool
begins p [] = false
begins p (b ∷ bs) = p b

-- how many bytes at the front pass the test
abbrev pub front : (ℕ → Bool) → List ℕ → ℕ
front p [] = 0
front p (b ∷ bs) = cond (p b) (suc (front p bs)) 0

-- the decimal value of the digits, behind those whose value is n
abbrev pub decimal : ℕ → List ℕ → ℕ
decimal n [] = n
decimal n (d ∷ ds) = decimal (n * 10 + (d - 48)) ds

abbrev pub value_of : List ℕ → ℕ
value_of ds = decimal 0 ds

abbrev pub leading_zero : List ℕ → Bool
leading_zero [] = false
leading_zero (d ∷ []) = false
leading_zero (d ∷ e ∷ ds) = d == 48

-- one to ten digits, no leading zero but in 0 itself, and at most 4,294,967,295
abbrev pub is_number : List ℕ → Bool
is_number ds =
    nat_lt 0 (length ds) && (nat_le (length ds) 10 && (all is_digit ds && (not (leading_zero ds) && nat_lt (value_of ds) (2 ^ 32))))

abbrev pub small_value : List ℕ → Option ℕ
small_value ds = cond (all is_digit ds && nat_lt (value_of ds) (2 ^ 32)) (Some (value_of ds)) None

-- the number's value, where the run is a number
abbrev pub number_value : List ℕ → Option ℕ
number_value ds = cond (is_number ds) (Some (value_of ds)) None

-- numbers with a space (byte 32) between them
abbrev pub spaced : List (List ℕ) → List ℕ
spaced [] = []
spaced (n ∷ []) = n
spaced (n ∷ m ∷ ns) = n ++ 32 ∷ spaced (m ∷ ns)

-- byte 40 is "(" and byte 41 is ")"
abbrev pub spell_piece : Piece → List ℕ
spell_piece (number ds) = ds
spell_piece (numbers ns) = 40 ∷ spaced ns ++ 41 ∷ []

abbrev pub spell_item : Piece → List ℕ
spell_item p = 32 ∷ spell_piece p

-- the line without its last two bytes
abbrev pub opened : Form → List ℕ
opened f = (40 ∷ f.word) ++ flat_map spell_item f.items

-- the line's bytes, with the byte 10 that ends it
abbrev pub spell : Form → List ℕ
spell f = opened f ++ 41 ∷ 10 ∷ []

abbrev pub Each : {A : Type 0} → (A → Type 0) → List A → Type 0
Each P [] = Unit {0}
Each P (x ∷ xs) = P x × Each P xs

abbrev pub Word : List ℕ → Type 0
Word w = (0 < length w) × (length w ≤ 8) × (all is_letter w ≡ true)

abbrev pub Number : List ℕ → Type 0
Number ds = is_number ds ≡ true

abbrev pub ProperPiece : Piece → Type 0
ProperPiece (number ds) = Number ds
ProperPiece (numbers ns) = (length ns ≤ 9) × Each Number ns

abbrev pub Proper : Form → Type 0
Proper f = Word f.word × Each ProperPiece f.items

-- a run of digits of any length and value
abbrev pub Run : List ℕ → Type 0
Run ds = (0 < length ds) × (all is_digit ds ≡ true)

abbrev pub LoosePiece : Piece → Type 0
LoosePiece (number ds) = Run ds
LoosePiece (numbers ns) = Each Run ns

-- a line as the line's rule alone has it: runs of digits and lists may be of any length
abbrev pub Loose : Form → Type 0
Loose f = Word f.word × Each LoosePiece f.items
