-- The kind of bytes: exclusive or for the sum, and the product of FIPS 197. A byte stands for a polynomial over
-- the two elements 0 and 1: bit i is the coefficient of x^i. Sum and product are those of polynomials, and the
-- product is brought below degree 8 by its remainder by x^8 + x^4 + x^3 + x + 1, hexadecimal 11b.
-- Assumes nothing.
use Rattle.std.specs.Prelude.{ℕ, zero, suc, ◌+◌, ◌*◌, ◌/◌, ◌%◌, ◌^◌, List, bit_xor}
use Rattle.kinds.specs.Kind.{Ops}
use Rattle.kinds.specs.Tables.{point_code, entry}

-- the coefficient of x^i
abbrev pub bit : ℕ → ℕ → ℕ
bit i a = (a / 2 ^ i) % 2

-- The product of a by the lowest i coefficients of b: the polynomials a · x^j, for each j below i at which b has a
-- coefficient 1, added.
unfoldable pub multiplied : ℕ → ℕ → ℕ → ℕ
multiplied zero a b = 0
multiplied (suc i) a b = bit_xor (multiplied i a b) (bit i b * (a * 2 ^ i))

abbrev pub modulus : ℕ
modulus = 0x11b

-- The remainder by the modulus of a polynomial of degree below 8 + i: from the highest coefficient down, modulus · x^j
-- is taken off where the coefficient of x^(8 + j) is 1.
unfoldable pub reduced : ℕ → ℕ → ℕ
reduced zero a = a
reduced (suc i) a = reduced i (bit_xor a (bit (8 + i) a * (modulus * 2 ^ i)))

-- the product of two bytes: of two polynomials of degree below 8, which has degree below 15
unfoldable pub byte_product : ℕ → ℕ → ℕ
byte_product a b = reduced 7 (multiplied 8 a b)

abbrev pub bytes : List (List ℕ) → Ops
bytes table = record {
  size = 256;
  sum = λ a b. bit_xor (a % 256) (b % 256);
  negative = λ a. a % 256;
  product = λ a b. byte_product (a % 256) (b % 256);
  unit = 1;
  point = point_code;
  reciprocal = entry table;
}
