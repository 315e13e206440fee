-- The ring laws of remainders, proved once over the modulus. Assumes nothing.
use Rattle.std.specs.Prelude.{◌≡◌, ℕ, ◌+◌, ◌-◌, ◌*◌, ◌/◌, ◌%◌, ◌<◌, ◌≤◌, true, List, refl}
use Rattle.std.proofs.Common.{sym, ap, ◌∙◌, add_assoc, add_comm, add-zero, mul_assoc, mul_comm, mul-add, add-mul, one-mul, mod-lt, mod-eq_of_lt, arith}
use Rattle.std.proofs.Math.Nat.{mod-add-div, add-mul-mod_self_left, mod-mod, mod-add-mod, add-mod-mod, add-mod, mod_self}
use Rattle.kinds.specs.Kind.{Lawful, last_point, largest_size}
use Rattle.kinds.specs.Remainders.{remainders}
use Rattle.kinds.specs.Table.{all_gaps, gap_law, point_below, point_past, entry_past_left, entry_past_right, reciprocal_same, reciprocal_below}

module _ (m : ℕ) (low : 2 ≤ m) where
  pub positive : 0 < m
  positive = omega arith

  pub below : (a : ℕ) → a % m < m
  below a = mod-lt a positive

  mod_mul_mod : (a b : ℕ) → (a % m * b) % m ≡ (a * b) % m
  mod_mul_mod a b =
      sym
      (ap (λ n. (n * b) % m) (sym (mod-add-div a m)) ∙ ap (λ n. n % m) (add-mul (a % m) (m * (a / m)) b ∙ ap (λ n. a % m * b + n) (mul_assoc m (a / m) b))
      ∙ add-mul-mod_self_left (a % m * b) m (a / m * b))

  mul_mod_mod : (a b : ℕ) → (a * (b % m)) % m ≡ (a * b) % m
  mul_mod_mod a b = ap (λ n. n % m) (mul_comm a (b % m)) ∙ mod_mul_mod b a ∙ ap (λ n. n % m) (mul_comm b a)

  pub sum_counts : (a b : ℕ) → (a + b) % m ≡ (a % m + b % m) % m
  sum_counts a b = add-mod a b m

  pub product_counts : (a b : ℕ) → (a * b) % m ≡ (a % m * (b % m)) % m
  product_counts a b = sym (mod_mul_mod a (b % m) ∙ mul_mod_mod a b)

  pub sum_assoc : (a b c : ℕ) → ((a + b) % m + c) % m ≡ (a + (b + c) % m) % m
  sum_assoc a b c = mod-add-mod (a + b) m c ∙ ap (λ n. n % m) (add_assoc a b c) ∙ sym (add-mod-mod a (b + c) m)

  pub sum_comm : (a b : ℕ) → (a + b) % m ≡ (b + a) % m
  sum_comm a b = ap (λ n. n % m) (add_comm a b)

  pub sum_zero : (a : ℕ) → a < m → (a + 0) % m ≡ a
  sum_zero a h = ap (λ n. n % m) (add-zero a) ∙ mod-eq_of_lt h

  pub sum_negative : (a : ℕ) → a < m → (a + (m - a % m) % m) % m ≡ 0
  sum_negative a h =
      let same : a % m ≡ a = mod-eq_of_lt h in
      let whole : a + (m - a % m) ≡ m = omega arith in
      add-mod-mod a (m - a % m) m ∙ ap (λ n. n % m) whole ∙ mod_self m

  pub product_assoc : (a b c : ℕ) → ((a * b) % m * c) % m ≡ (a * ((b * c) % m)) % m
  product_assoc a b c = mod_mul_mod (a * b) c ∙ ap (λ n. n % m) (mul_assoc a b c) ∙ sym (mul_mod_mod a (b * c))

  pub product_comm : (a b : ℕ) → (a * b) % m ≡ (b * a) % m
  product_comm a b = ap (λ n. n % m) (mul_comm a b)

  pub distributes : (a b c : ℕ) → (a * ((b + c) % m)) % m ≡ ((a * b) % m + (a * c) % m) % m
  distributes a b c = mul_mod_mod a (b + c) ∙ ap (λ n. n % m) (mul-add a b c) ∙ add-mod (a * b) (a * c) m

  pub unit_times : (a : ℕ) → a < m → (1 * a) % m ≡ a
  unit_times a h = ap (λ n. n % m) (one-mul a) ∙ mod-eq_of_lt h

  pub negative_counts : (a : ℕ) → (m - a % m) % m ≡ (m - a % m % m) % m
  negative_counts a = ap (λ n. (m - n) % m) (sym (mod-mod a m))

-- the kind of remainders by m, over a table that passes the test of all gaps
pub lawful_remainders : (m : ℕ) → last_point < m → m ≤ largest_size → (table : List (List ℕ)) → all_gaps (remainders m table) ≡ true → Lawful (remainders m table)
lawful_remainders m room high table t =
    let low : 2 ≤ m = omega arith in
    record {
      size_low = low;
      size_high = high;
      sum_below = λ a b. below m low (a + b);
      negative_below = λ a. below m low (m - a % m);
      product_below = λ a b. below m low (a * b);
      unit_below = low;
      point_below = point_below m room;
      reciprocal_below = reciprocal_below (remainders m table) table (λ i j. refl) (positive m low) t;
      sum_counts = sum_counts m low;
      negative_counts = negative_counts m low;
      product_counts = product_counts m low;
      sum_assoc = λ a b c _ _ _. sum_assoc m low a b c;
      sum_comm = λ a b _ _. sum_comm m low a b;
      sum_zero = sum_zero m low;
      sum_negative = sum_negative m low;
      product_assoc = λ a b c _ _ _. product_assoc m low a b c;
      product_comm = λ a b _ _. product_comm m low a b;
      distributes = λ a b c _ _ _. distributes m low a b c;
      unit_not_zero = omega arith;
      unit_times = unit_times m low;
      point_zero = refl;
      point_past = point_past;
      reciprocal_same = reciprocal_same (remainders m table) table (λ i j. refl) (positive m low) t;
      reciprocal_past_left = entry_past_left table;
      reciprocal_past_right = entry_past_right table;
      gap = gap_law (remainders m table) t;
    }
