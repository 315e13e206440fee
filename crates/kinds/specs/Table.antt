-- Points, and a table of the reciprocals of their gaps, keep the laws of a kind: one test that antt computes over the
-- whole table, and the lemma that turns it into the law at each entry. Shared by all kinds. Assumes nothing.
use Rattle.std.specs.Prelude.{◌≡◌, ℕ, suc, ◌<◌, ◌≤◌, Bool, true, cond, ◌&&◌, ◌≢◌, List, ◌==◌, nat_le, nat_lt, refl}
use Rattle.std.proofs.Common.{sym, ◌∙◌, ⊎_elim, arith}
use Rattle.std.proofs.lemmas.Bool.{and_parts, and_left, and_right, cases_lt, cond-true, cond-false, cond_both, eq-eqb, ne_eqb, eqb-true, ltb-true, leb-true, lt-leb}
use Rattle.kinds.specs.Each.{each, each_at}
use Rattle.kinds.specs.Kind.{Ops, difference, last_point}
use Rattle.kinds.specs.Tables.{entry, point_code}

-- the entry at i, j is below the size, and the reciprocal of the gap, or 0 where there is no gap
abbrev cell : Ops → ℕ → ℕ → Bool
cell o i j =
    nat_lt (o.reciprocal i j) o.size
    && cond (i == j) (o.reciprocal i j == 0) (o.product (difference o (o.point i) (o.point j)) (o.reciprocal i j) == o.unit)

-- the one test over all gaps
abbrev pub all_gaps : Ops → Bool
all_gaps o = each (suc last_point) (λ i. each (suc last_point) (cell o i))

module _ (o : Ops) (t : all_gaps o ≡ true) where
  cell_at : (i j : ℕ) → i ≤ last_point → j ≤ last_point → cell o i j ≡ true
  cell_at i j hi hj = each_at (suc last_point) (cell o i) (each_at (suc last_point) (λ k. each (suc last_point) (cell o k)) t i (omega arith)) j (omega arith)

  pub gap_law : (i j : ℕ) → i ≤ last_point → j ≤ last_point → i ≢ j → o.product (difference o (o.point i) (o.point j)) (o.reciprocal i j) ≡ o.unit
  gap_law i j hi hj ne =
      eqb-true (o.product (difference o (o.point i) (o.point j)) (o.reciprocal i j)) o.unit
      (sym (cond-false (i == j) _ _ (ne_eqb i j ne)) ∙ (and_parts (nat_lt (o.reciprocal i j) o.size) _ (cell_at i j hi hj)).1)

  same_law : (i : ℕ) → i ≤ last_point → o.reciprocal i i ≡ 0
  same_law i h =
      eqb-true (o.reciprocal i i) 0
      (sym (cond-true (i == i) _ _ (eq-eqb i i refl)) ∙ (and_parts (nat_lt (o.reciprocal i i) o.size) _ (cell_at i i h h)).1)

  below_law : (i j : ℕ) → i ≤ last_point → j ≤ last_point → o.reciprocal i j < o.size
  below_law i j hi hj = ltb-true (o.reciprocal i j) o.size (and_parts (nat_lt (o.reciprocal i j) o.size) _ (cell_at i j hi hj)).0

pub entry_past_left : (table : List (List ℕ)) (i j : ℕ) → last_point < i → entry table i j ≡ 0
entry_past_left table i j h = cond-false (nat_le i last_point && nat_le j last_point) _ _ (and_left (nat_le i last_point) (nat_le j last_point) (lt-leb i last_point h))

pub entry_past_right : (table : List (List ℕ)) (i j : ℕ) → last_point < j → entry table i j ≡ 0
entry_past_right table i j h = cond-false (nat_le i last_point && nat_le j last_point) _ _ (and_right (nat_le i last_point) (nat_le j last_point) (lt-leb j last_point h))

pub point_past : (i : ℕ) → last_point < i → point_code i ≡ 0
point_past i h = cond-false (nat_le i last_point) i 0 (lt-leb i last_point h)

pub point_below : (size : ℕ) → last_point < size → (i : ℕ) → point_code i < size
point_below size room i = cond_both (nat_le i last_point) i 0 (λ p. p < size) (λ e. omega (arith, leb-true i last_point e)) (λ e. omega arith)

-- the laws of an entry, inside the table and outside
module _ (o : Ops) (table : List (List ℕ)) (is : (i j : ℕ) → o.reciprocal i j ≡ entry table i j) (positive : 0 < o.size) (t : all_gaps o ≡ true) where
  pub reciprocal_same : (i : ℕ) → o.reciprocal i i ≡ 0
  reciprocal_same i = ⊎_elim (λ (h : last_point < i). is i i ∙ entry_past_left table i i h) (λ (h : i ≤ last_point). same_law o t i h) (cases_lt last_point i)

  outside : (i j : ℕ) → entry table i j ≡ 0 → o.reciprocal i j < o.size
  outside i j e = let zero_there : o.reciprocal i j ≡ 0 = is i j ∙ e in omega arith

  pub reciprocal_below : (i j : ℕ) → o.reciprocal i j < o.size
  reciprocal_below i j =
      ⊎_elim (λ (hi : last_point < i). outside i j (entry_past_left table i j hi))
      (λ (hi : i ≤ last_point). ⊎_elim (λ (hj : last_point < j). outside i j (entry_past_right table i j hj)) (λ (hj : j ≤ last_point). below_law o t i j hi hj) (cases_lt last_point j))
      (cases_lt last_point i)
