-- The calls on a set book, with the numbers handed in. Lists that a call writes count by their length, the room.
-- Assumes nothing.
use Rattle.std.specs.Prelude.{ℕ, List}

pub data Call : Type 0 where
  enter : (line house figure : ℕ) (strip : List ℕ) → Call
  sum : (destination a b : ℕ) → Call
  scale : (destination a constant : ℕ) → Call
  begin : (destination a b : ℕ) → Call
  deal : (seat : ℕ) (strip : List ℕ) → Call
  gather : (seat : ℕ) → Call
  «open» : (line room : ℕ) → Call
  show : (seat room : ℕ) → Call
