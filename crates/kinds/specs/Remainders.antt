-- The kinds whose numbers are the remainders by a modulus, with the ordinary sum and product.
-- Assumes nothing.
use Rattle.std.specs.Prelude.{ℕ, ◌+◌, ◌-◌, ◌*◌, ◌%◌, List}
use Rattle.kinds.specs.Kind.{Ops}
use Rattle.kinds.specs.Tables.{point_code, entry}

abbrev pub remainders : ℕ → List (List ℕ) → Ops
remainders m table = record {
  size = m;
  sum = λ a b. (a + b) % m;
  negative = λ a. (m - a % m) % m;
  product = λ a b. (a * b) % m;
  unit = 1;
  point = point_code;
  reciprocal = entry table;
}
