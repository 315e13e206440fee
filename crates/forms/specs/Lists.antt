-- The numbers of a list, from its bytes. Assumes nothing.
use Rattle.std.specs.Prelude.{◌≡◌, ℕ, ◌-◌, ◌≤◌, Bool, cond, ◌&&◌, List, [], ◌∷◌, ◌++◌, map, length, take, drop, Some, None, Option, ◌==◌, nat_le, slice_index}
use Rattle.reading.specs.Forms.{space, opening, closing, most_numbers, Each, Number, numbers, number_value, value_of, spell_piece}
use Rattle.forms.specs.declared.numbers.Numbers.{Numbers}

-- what the Numbers of the code stand for
abbrev pub numbers_in : Numbers → List ℕ
numbers_in s = take s.count s.codes

abbrev pub taken_in : Option Numbers → Option (List ℕ)
taken_in (Some s) = Some (numbers_in s)
taken_in None = None

-- a value, and those behind it
abbrev pub value_then : Option ℕ → Option (List ℕ) → Option (List ℕ)
value_then (Some v) (Some vs) = Some (v ∷ vs)
value_then (Some v) None = None
value_then None rest = None

-- The values of numbers with a space between them; ds are the digits of the first that are read already.
abbrev pub spaced_values : List ℕ → List ℕ → Option (List ℕ)
spaced_values ds [] = value_then (number_value ds) (Some [])
spaced_values ds (b ∷ bs) = cond (b == space) (value_then (number_value ds) (spaced_values [] bs)) (spaced_values (ds ++ b ∷ []) bs)

abbrev pub at_most_nine : Option (List ℕ) → Option (List ℕ)
at_most_nine (Some vs) = cond (nat_le (length vs) most_numbers) (Some vs) None
at_most_nine None = None

-- the first byte and the last are the parentheses of a list
abbrev pub is_list : List ℕ → Bool
is_list bytes = nat_le 2 (length bytes) && (slice_index bytes 0 == opening && slice_index bytes (length bytes - 1) == closing)

-- the bytes between the first and the last
abbrev pub inside : List ℕ → List ℕ
inside bytes = take (length bytes - 2) (drop 1 bytes)

-- the values of a list's numbers; bytes that are no list have none
abbrev pub list_value : List ℕ → Option (List ℕ)
list_value bytes = cond (is_list bytes) (cond (length bytes == 2) (Some []) (at_most_nine (spaced_values [] (inside bytes)))) None

-- a list that the reader lets by has the values of its numbers
abbrev pub ListIsValued : Type 0
ListIsValued = (ns : List (List ℕ)) → length ns ≤ most_numbers → Each Number ns → list_value (spell_piece (numbers ns)) ≡ Some (map value_of ns)
