-- Shamir's sharing over a kind of number: shares, weights and recombination. Assumes nothing.
use Rattle.std.specs.Prelude.{ℕ, cond, List, [], ◌∷◌, map, ◌==◌}
use Rattle.std.specs.List.{range_with_len}
use Rattle.kinds.specs.Kind.{Ops}

-- the most seats that a figure is shared among: seats 1 to 9
abbrev pub most_seats : ℕ
most_seats = 9

-- seats 1 to n
abbrev pub seats_to : ℕ → List ℕ
seats_to n = range_with_len 1 n

-- The value at x of the polynomial with these coefficients, the constant first:
-- c_0 + x × (c_1 + x × (c_2 + ..)), which is c_0 + c_1 × x + c_2 × x² + ..
abbrev pub value_at : Ops → List ℕ → ℕ → ℕ
value_at o [] x = 0
value_at o (c ∷ cs) x = o.sum c (o.product x (value_at o cs x))

-- The share of a figure along a strip at a seat: the value at the seat's point of the polynomial whose constant is
-- the figure and whose other coefficients are the strip.
abbrev pub share_at : Ops → ℕ → List ℕ → ℕ → ℕ
share_at o figure strip seat = value_at o (figure ∷ strip) (o.point seat)

-- the shares of a figure along a strip at some seats
abbrev pub shares_at : Ops → ℕ → List ℕ → List ℕ → List ℕ
shares_at o figure strip seats = map (share_at o figure strip) seats

-- the part that seat j has in the weight of seat i
abbrev pub weight_part : Ops → ℕ → ℕ → ℕ
weight_part o i j = cond (i == j) o.unit (o.product (o.negative (o.point j)) (o.reciprocal i j))

-- The weight of seat i among some seats: the product, over each seat j other than i, of −p_j × reciprocal(i, j).
-- It is the Lagrange coefficient at 0.
abbrev pub weight_among : Ops → List ℕ → ℕ → ℕ
weight_among o [] i = o.unit
weight_among o (j ∷ js) i = o.product (weight_part o i j) (weight_among o js i)

-- the weights of seats 1 to n (the recombination vector)
abbrev pub weights_of : Ops → ℕ → List ℕ
weights_of o n = map (weight_among o (seats_to n)) (seats_to n)

-- w_1 × c_1 + w_2 × c_2 + .., as far as both lists go
abbrev pub weighed : Ops → List ℕ → List ℕ → ℕ
weighed o [] cs = 0
weighed o (w ∷ ws) [] = 0
weighed o (w ∷ ws) (c ∷ cs) = o.sum (o.product w c) (weighed o ws cs)
