-- What the code adds up and multiplies along a list, as the definitions compute it. Assumes nothing.
use Rattle.std.proofs.Common.{◌≡◌, ℕ, ◌+◌, ◌<◌, List, [], ◌∷◌, map, length, get_or, reverse, zip, fold, refl, sym, ap, ◌∙◌, ◌==◌, arith}
use Rattle.std.proofs.lemmas.List.{reverse-append, ext_get_or}
use Rattle.std.proofs.lemmas.List.FromFn.{length-map-range_with_len, get_or-map-range_with_len}
use Rattle.std.proofs.lemmas.List.Sums.{fold-append}
use Rattle.std.proofs.lemmas.Bool.{cond_both}
use Rattle.kinds.specs.Kind.{Ops, Lawful}
use Rattle.sharing.proofs.Crossing.{weighed_below}
use Rattle.sharing.specs.Shares.{seats_to, value_at, weight_part, weight_among, weighed}

-- the value of a polynomial, from its last coefficient to its first
pub fold-value_at : (o : Ops) (cs : List ℕ) (x : ℕ) → fold (λ tail c. o.sum c (o.product x tail)) 0 (reverse cs) ≡ value_at o cs x
fold-value_at o [] x = refl
fold-value_at o (c ∷ cs) x =
    let f : ℕ → ℕ → ℕ = λ tail d. o.sum d (o.product x tail) in
    ap (fold f 0) (reverse-append (c ∷ []) cs) ∙ fold-append f 0 (reverse cs) (c ∷ []) ∙ ap (λ tail. o.sum c (o.product x tail)) (fold-value_at o cs x)

module _ (o : Ops) (L : Lawful o) where
  none_below : 0 < o.size
  none_below = omega (arith, L.size_low)

  -- the total of the products, from t on
  total_from : (ws cs : List ℕ) (t : ℕ) → t < o.size → fold (λ total (p : ℕ × ℕ). o.sum total (o.product p.0 p.1)) t (zip ws cs) ≡ o.sum t (weighed o ws cs)
  total_from [] cs t h = sym (L.sum_zero t h)
  total_from (w ∷ ws) [] t h = sym (L.sum_zero t h)
  total_from (w ∷ ws) (c ∷ cs) t h =
      total_from ws cs (o.sum t (o.product w c)) (L.sum_below t (o.product w c))
      ∙ L.sum_assoc t (o.product w c) (weighed o ws cs) h (L.product_below w c) (weighed_below o L ws cs)

  pub fold-weighed : (ws cs : List ℕ) → fold (λ total (p : ℕ × ℕ). o.sum total (o.product p.0 p.1)) 0 (zip ws cs) ≡ weighed o ws cs
  fold-weighed ws cs =
      total_from ws cs 0 none_below ∙ L.sum_comm 0 (weighed o ws cs) none_below (weighed_below o L ws cs) ∙ L.sum_zero (weighed o ws cs) (weighed_below o L ws cs)

  part_below : (i j : ℕ) → weight_part o i j < o.size
  part_below i j = cond_both (i == j) _ _ (λ p. p < o.size) (λ e. L.unit_below) (λ e. L.product_below _ _)

  weight_below : (js : List ℕ) (i : ℕ) → weight_among o js i < o.size
  weight_below [] i = L.unit_below
  weight_below (j ∷ js) i = L.product_below (weight_part o i j) (weight_among o js i)

  -- the product of the parts, from w on
  weight_from : (js : List ℕ) (i w : ℕ) → w < o.size → fold (λ weight j. o.product weight (weight_part o i j)) w js ≡ o.product w (weight_among o js i)
  weight_from [] i w h = sym (L.product_comm w o.unit h L.unit_below ∙ L.unit_times w h)
  weight_from (j ∷ js) i w h =
      weight_from js i (o.product w (weight_part o i j)) (L.product_below w (weight_part o i j))
      ∙ L.product_assoc w (weight_part o i j) (weight_among o js i) h (part_below i j) (weight_below js i)

  pub fold-weight_among : (js : List ℕ) (i : ℕ) → fold (λ weight j. o.product weight (weight_part o i j)) o.unit js ≡ weight_among o js i
  fold-weight_among js i = weight_from js i o.unit L.unit_below ∙ L.unit_times (weight_among o js i) (weight_below js i)

-- a list that has f at each seat 1 to n
pub filled_seats : (f : ℕ → ℕ) (xs : List ℕ) (n : ℕ) → length xs ≡ n → ((k : ℕ) → k < n → get_or xs k 0 ≡ f (k + 1)) → xs ≡ map f (seats_to n)
filled_seats f xs n long each =
    ext_get_or 0 xs (map f (seats_to n)) (long ∙ sym (length-map-range_with_len f 1 n))
    (λ i h. each i (omega arith) ∙ sym (get_or-map-range_with_len f 1 n i (i + 1) 0 (omega arith) (omega arith)))
