-- The front of a list that passes a test, and the decimal value of digits, step by step. Assumes nothing.
use Rattle.std.proofs.Common.{◌≡◌, ℕ, zero, suc, ◌+◌, ◌-◌, ◌*◌, ◌^◌, ◌<◌, ◌≤◌, Bool, true, false, List, [], ◌∷◌, ◌++◌, length, get_or, take, drop, is_some, None, refl, ◌∙◌, arith, take-append-drop, length-take-le}
use Rattle.std.proofs.lemmas.List.{at_drop_more}
use Rattle.std.specs.List.{prefix_len}
use Rattle.std.proofs.lemmas.List.Folds.{length-prefix_len}
use Rattle.reading.specs.Forms.{front, begins, all, is_digit, decimal, value_of, small_value, number_value, is_number, Run}

-- std's word for the same
prefix_len-front : (p : ℕ → Bool) (bs : List ℕ) → prefix_len p bs ≡ front p bs
prefix_len-front p [] = refl
prefix_len-front p (b ∷ bs) = grind (arith, prefix_len-front p bs)

-- how many items a `take_while` gives
pub front_counted : (p : ℕ → Bool) (bs : List ℕ) (n : ℕ) → n ≡ length (take (prefix_len p bs) bs) → n ≡ front p bs
front_counted p bs n e = e ∙ length-prefix_len p bs ∙ prefix_len-front p bs

-- the front passes, and what follows it does not
pub front_fits : (p : ℕ → Bool) (bs : List ℕ) → front p bs ≤ length bs
front_fits p [] = grind arith
front_fits p (b ∷ bs) = grind (arith, front_fits p bs)

pub front_passes : (p : ℕ → Bool) (bs : List ℕ) → all p (take (front p bs) bs) ≡ true
front_passes p [] = refl
front_passes p (b ∷ bs) = grind (arith, front_passes p bs)

pub front_ends : (p : ℕ → Bool) (bs : List ℕ) → begins p (drop (front p bs) bs) ≡ false
front_ends p [] = refl
front_ends p (b ∷ bs) = grind (arith, front_ends p bs)

-- a whole run of digits, and what follows it
pub digits_end : (r : List ℕ) (n : ℕ) → n ≡ front is_digit r → 0 < n → (r ≡ take n r ++ drop n r) × Run (take n r) × (begins is_digit (drop n r) ≡ false)
digits_end r n is some =
    grind (arith, front_fits is_digit r, front_passes, front_ends, take-append-drop, length-take-le)

-- no digits make a value less
decimal_grows : (ds : List ℕ) (n : ℕ) → n ≤ decimal n ds
decimal_grows [] n = grind arith
decimal_grows (d ∷ ds) n = grind (arith, decimal_grows ds (n * 10 + (d - 48)))

-- a value that no longer fits stays too large
pub dec_big : (ds : List ℕ) (i v : ℕ) → decimal v (drop i ds) ≡ value_of ds → i < length ds → 2 ^ 32 ≤ v * 10 + (get_or ds i 0 - 48) → None ≡ small_value ds
dec_big ds i v e h big =
    grind (arith, decimal_grows (drop (i + 1) ds) (v * 10 + (get_or ds i 0 - 48)), at_drop_more (decimal v) ds i 0 h)

-- within the front
pub front_within : (p : ℕ → Bool) (bs : List ℕ) (n : ℕ) → n < front p bs → (all p (take n bs) ≡ true) × (begins p (drop n bs) ≡ true)
front_within p [] n h = absurd (omega arith)
front_within p (b ∷ bs) zero h = grind arith
front_within p (b ∷ bs) (suc n) h = grind (arith, front_within p bs n)

pub value_test : (ds : List ℕ) → is_some (number_value ds) ≡ is_number ds
value_test ds = grind arith
