-- The ring laws of bytes. Products add up under exclusive or in each factor, so a law of products holds of all bytes
-- once it holds of the powers of two, which are few enough to compute. Assumes nothing.
use Rattle.std.specs.Prelude.{◌≡◌, ℕ, zero, suc, ◌+◌, ◌*◌, ◌/◌, ◌%◌, ◌^◌, ◌<◌, ◌≤◌, Bool, true, ◌≢◌, List, ◌==◌, nat_eq, nat_lt, refl}
use Rattle.std.proofs.Common.{sym, ap, ap₂, ◌∙◌, subst, zero-mul, one-mul, mul_comm, add-zero, mod-lt, mod-eq_of_lt, lt_of_lt_of_le, div-lt_iff_lt-mul, pow-suc, arith, lit<, pow_pos, pow_mono, shl_lt}
use Rattle.std.proofs.Math.Nat.{mod-mod}
use Rattle.std.proofs.Math.Arith.{lt-one}
use Rattle.std.specs.Int.Bits.{bit_xor, xor_assoc, xor_self, xor_zero_r, xor_shifted}
use Rattle.std.proofs.lemmas.Nat.{xor_comm, xor_block, xor_shr, xor_mod, xor_lt}
use Rattle.std.proofs.Math.Pow.{split}
use Rattle.std.proofs.lemmas.Bool.{eqb-true, ltb-true}
use Rattle.kinds.specs.Each.{each, each_at}
use Rattle.kinds.specs.Table.{all_gaps, gap_law, point_below, point_past, entry_past_left, entry_past_right, reciprocal_same, reciprocal_below}
use Rattle.kinds.specs.Kind.{Lawful}
use Rattle.kinds.specs.Bytes.{bit, modulus, multiplied, reduced, byte_product, bytes}

-- ---- exclusive or against shifts, bits and products by a bit

xor_swap : (a b c d : ℕ) → bit_xor (bit_xor a b) (bit_xor c d) ≡ bit_xor (bit_xor a c) (bit_xor b d)
xor_swap a b c d =
    xor_assoc a b (bit_xor c d)
    ∙ ap (bit_xor a) (sym (xor_assoc b c d) ∙ ap (λ (x : ℕ). bit_xor x d) (xor_comm b c) ∙ xor_assoc c b d)
    ∙ sym (xor_assoc a c (bit_xor b d))

xor_shift : (k a b : ℕ) → bit_xor a b * 2 ^ k ≡ bit_xor (a * 2 ^ k) (b * 2 ^ k)
xor_shift k a b =
    sym (ap₂ bit_xor (sym (add-zero (a * 2 ^ k))) (sym (add-zero (b * 2 ^ k)))
    ∙ xor_block k a b 0 0 (pow_pos k) (pow_pos k) ∙ add-zero (bit_xor a b * 2 ^ k))

bit_below : (i a : ℕ) → bit i a < 2
bit_below i a = mod-lt (a / 2 ^ i) (lit< tt)

bit-xor : (i a b : ℕ) → bit i (bit_xor a b) ≡ bit_xor (bit i a) (bit i b)
bit-xor i a b = ap (λ (x : ℕ). x % 2) (xor_shr a b i) ∙ xor_mod (a / 2 ^ i) (b / 2 ^ i) 1

-- a product by a bit is the number or 0
gate : (t x y : ℕ) → t < 2 → t * bit_xor x y ≡ bit_xor (t * x) (t * y)
gate zero x y h = zero-mul (bit_xor x y) ∙ sym (ap₂ bit_xor (zero-mul x) (zero-mul y))
gate (suc zero) x y h = one-mul (bit_xor x y) ∙ sym (ap₂ bit_xor (one-mul x) (one-mul y))
gate (suc (suc t)) x y h = absurd (omega arith)

gate_bound : {n : ℕ} (t x : ℕ) → t < 2 → x < n → t * x < n
gate_bound {n} zero x h l = subst (λ (y : ℕ). y < n) (sym (zero-mul x)) (omega arith)
gate_bound {n} (suc zero) x h l = subst (λ (y : ℕ). y < n) (sym (one-mul x)) l
gate_bound {n} (suc (suc t)) x h l = absurd (omega arith)

gates : (s t x : ℕ) → s < 2 → t < 2 → bit_xor s t * x ≡ bit_xor (s * x) (t * x)
gates zero t x hs ht = sym (ap (λ (y : ℕ). bit_xor y (t * x)) (zero-mul x))
gates (suc zero) zero x hs ht = sym (ap (bit_xor (1 * x)) (zero-mul x) ∙ xor_zero_r (1 * x))
gates (suc zero) (suc zero) x hs ht = zero-mul x ∙ sym (xor_self (1 * x))
gates (suc zero) (suc (suc t)) x hs ht = absurd (omega arith)
gates (suc (suc s)) t x hs ht = absurd (omega arith)

-- ---- the product adds up in each factor, and so does the remainder

abbrev pub Additive : (ℕ → ℕ) → Type 0
Additive f = (a b : ℕ) → f (bit_xor a b) ≡ bit_xor (f a) (f b)

multiplied_left : (i c : ℕ) → Additive (λ a. multiplied i a c)
unfolding multiplied
multiplied_left zero c a b = refl
multiplied_left (suc i) c a b =
    ap₂ bit_xor (multiplied_left i c a b)
    (ap (λ (x : ℕ). bit i c * x) (xor_shift i a b) ∙ gate (bit i c) (a * 2 ^ i) (b * 2 ^ i) (bit_below i c))
    ∙ xor_swap (multiplied i a c) (multiplied i b c) (bit i c * (a * 2 ^ i)) (bit i c * (b * 2 ^ i))

multiplied_right : (i c : ℕ) → Additive (multiplied i c)
unfolding multiplied
multiplied_right zero c a b = refl
multiplied_right (suc i) c a b =
    ap₂ bit_xor (multiplied_right i c a b)
    (ap (λ (t : ℕ). t * (c * 2 ^ i)) (bit-xor i a b) ∙ gates (bit i a) (bit i b) (c * 2 ^ i) (bit_below i a) (bit_below i b))
    ∙ xor_swap (multiplied i c a) (multiplied i c b) (bit i a * (c * 2 ^ i)) (bit i b * (c * 2 ^ i))

-- what the remainder takes off at x^(8 + i)
abbrev taken : ℕ → ℕ → ℕ
taken i a = bit (8 + i) a * (modulus * 2 ^ i)

taken_xor : (i : ℕ) → Additive (taken i)
taken_xor i a b =
    ap (λ (t : ℕ). t * (modulus * 2 ^ i)) (bit-xor (8 + i) a b)
    ∙ gates (bit (8 + i) a) (bit (8 + i) b) (modulus * 2 ^ i) (bit_below (8 + i) a) (bit_below (8 + i) b)

pub reduced_xor : (i : ℕ) → Additive (reduced i)
unfolding reduced
reduced_xor zero a b = refl
reduced_xor (suc i) a b =
    ap (reduced i) (ap (bit_xor (bit_xor a b)) (taken_xor i a b) ∙ xor_swap a b (taken i a) (taken i b))
    ∙ reduced_xor i (bit_xor a (taken i a)) (bit_xor b (taken i b))

pub byte_product_left : (c : ℕ) → Additive (λ a. byte_product a c)
unfolding byte_product
byte_product_left c a b =
    ap (reduced 7) (multiplied_left 8 c a b) ∙ reduced_xor 7 (multiplied 8 a c) (multiplied 8 b c)

pub byte_product_right : (c : ℕ) → Additive (byte_product c)
unfolding byte_product
byte_product_right c a b =
    ap (reduced 7) (multiplied_right 8 c a b) ∙ reduced_xor 7 (multiplied 8 c a) (multiplied 8 c b)

-- ---- from the powers of two to every number

top : (P : ℕ → Type 0) (n q : ℕ) → q < 2 → P 0 → P (2 ^ n) → P (q * 2 ^ n)
top P n zero h none one = subst P (sym (zero-mul (2 ^ n))) none
top P n (suc zero) h none one = subst P (sym (one-mul (2 ^ n))) one
top P n (suc (suc q)) h none one = absurd (omega arith)

-- what holds of 0, of the powers of two below 2 ^ n, and of a and b also of their exclusive or, holds below 2 ^ n
by_bits : (P : ℕ → Type 0) → P 0 → ((a b : ℕ) → P a → P b → P (bit_xor a b))
    → (n : ℕ) → ((i : ℕ) → i < n → P (2 ^ i)) → (a : ℕ) → a < 2 ^ n → P a
by_bits P none join zero powers a h = subst P (sym (lt-one h)) none
by_bits P none join (suc n) powers a h =
    let low : a % 2 ^ n < 2 ^ n = mod-lt a (pow_pos n) in
    let high : a / 2 ^ n < 2 = (div-lt_iff_lt-mul (pow_pos n)).1 (subst (λ (x : ℕ). a < x) (pow-suc 2 n ∙ mul_comm (2 ^ n) 2) h) in
    subst P (xor_shifted (a / 2 ^ n) n (a % 2 ^ n) low ∙ split a n)
    (join (a / 2 ^ n * 2 ^ n) (a % 2 ^ n) (top P n (a / 2 ^ n) high none (powers n (omega arith)))
    (by_bits P none join n (λ i l. powers i (omega arith)) (a % 2 ^ n) low))

additive_zero : (f : ℕ → ℕ) → Additive f → f 0 ≡ 0
additive_zero f hf = hf 0 0 ∙ xor_self (f 0)

agree : (f g : ℕ → ℕ) → Additive f → Additive g → (n : ℕ) → ((i : ℕ) → i < n → f (2 ^ i) ≡ g (2 ^ i))
    → (a : ℕ) → a < 2 ^ n → f a ≡ g a
agree f g hf hg =
    by_bits (λ (a : ℕ). f a ≡ g a) (additive_zero f hf ∙ sym (additive_zero g hg))
    (λ a b p q. hf a b ∙ ap₂ bit_xor p q ∙ sym (hg a b))

bounded : (f : ℕ → ℕ) (k : ℕ) → Additive f → (n : ℕ) → ((i : ℕ) → i < n → f (2 ^ i) < 2 ^ k)
    → (a : ℕ) → a < 2 ^ n → f a < 2 ^ k
bounded f k hf =
    by_bits (λ (a : ℕ). f a < 2 ^ k) (subst (λ (x : ℕ). x < 2 ^ k) (sym (additive_zero f hf)) (pow_pos k))
    (λ a b p q. subst (λ (x : ℕ). x < 2 ^ k) (sym (hf a b)) (xor_lt k (f a) (f b) p q))

-- ---- tests that compute

reduced_test : each 15 (λ i. nat_lt (reduced 7 (2 ^ i)) 256) ≡ true
unfolding each reduced
reduced_test = refl

unit_test : each 8 (λ i. nat_eq (byte_product 1 (2 ^ i)) (2 ^ i)) ≡ true
unfolding each byte_product reduced multiplied
unit_test = refl

abbrev comm_is : ℕ → ℕ → Bool
comm_is a b = byte_product a b == byte_product b a

comm_test : each 8 (λ i. each 8 (λ j. comm_is (2 ^ i) (2 ^ j))) ≡ true
unfolding each byte_product reduced multiplied
comm_test = refl

abbrev assoc_is : ℕ → ℕ → ℕ → Bool
assoc_is a b c = byte_product (byte_product a b) c == byte_product a (byte_product b c)

assoc_test : each 8 (λ i. each 8 (λ j. each 8 (λ k. assoc_is (2 ^ i) (2 ^ j) (2 ^ k)))) ≡ true
unfolding each byte_product reduced multiplied
assoc_test = refl

-- ---- bounds

multiplied_bound : (i a b : ℕ) → i ≤ 8 → a < 2 ^ 8 → multiplied i a b < 2 ^ 15
unfolding multiplied
multiplied_bound zero a b hi h = lit< tt
multiplied_bound (suc i) a b hi h =
    xor_lt 15 (multiplied i a b) (bit i b * (a * 2 ^ i)) (multiplied_bound i a b (omega arith) h)
    (gate_bound (bit i b) (a * 2 ^ i) (bit_below i b) (lt_of_lt_of_le (shl_lt 8 i h) (pow_mono {j = 15} (omega arith))))

-- the product of two polynomials of degree below 8 has degree below 15
pub multiplied_below : (a b : ℕ) → a < 256 → multiplied 8 a b < 2 ^ 15
multiplied_below a b h = multiplied_bound 8 a b (omega arith) h

pub reduced_below : (a : ℕ) → a < 2 ^ 15 → reduced 7 a < 256
reduced_below =
    bounded (reduced 7) 8 (reduced_xor 7) 15
    (λ i h. ltb-true (reduced 7 (2 ^ i)) 256 (each_at 15 (λ i. nat_lt (reduced 7 (2 ^ i)) 256) reduced_test i h))

-- ---- the laws of the product

pub byte_product_below : (a b : ℕ) → a < 256 → byte_product a b < 256
unfolding byte_product
byte_product_below a b h = reduced_below (multiplied 8 a b) (multiplied_below a b h)

pub byte_product_unit : (a : ℕ) → a < 256 → byte_product 1 a ≡ a
byte_product_unit =
    agree (byte_product 1) (λ a. a) (byte_product_right 1) (λ a b. refl) 8
    (λ i h. eqb-true (byte_product 1 (2 ^ i)) (2 ^ i) (each_at 8 (λ i. nat_eq (byte_product 1 (2 ^ i)) (2 ^ i)) unit_test i h))

-- The laws in two and three variables: one variable at a time goes from the powers of two to all bytes.
comm_powers : (i : ℕ) → i < 8 → (j : ℕ) → j < 8 → byte_product (2 ^ i) (2 ^ j) ≡ byte_product (2 ^ j) (2 ^ i)
comm_powers i hi j hj =
    eqb-true (byte_product (2 ^ i) (2 ^ j)) (byte_product (2 ^ j) (2 ^ i))
    (each_at 8 (λ j. comm_is (2 ^ i) (2 ^ j)) (each_at 8 (λ i. each 8 (λ j. comm_is (2 ^ i) (2 ^ j))) comm_test i hi) j hj)

comm_power : (i : ℕ) → i < 8 → (b : ℕ) → b < 256 → byte_product (2 ^ i) b ≡ byte_product b (2 ^ i)
comm_power i hi =
    agree (byte_product (2 ^ i)) (λ b. byte_product b (2 ^ i)) (byte_product_right (2 ^ i)) (byte_product_left (2 ^ i)) 8
    (comm_powers i hi)

pub byte_product_comm : (a b : ℕ) → a < 256 → b < 256 → byte_product a b ≡ byte_product b a
byte_product_comm a b ha hb =
    agree (λ a. byte_product a b) (byte_product b) (byte_product_left b) (byte_product_right b) 8
    (λ i hi. comm_power i hi b hb) a ha

assoc_powers : (i j k : ℕ) → i < 8 → j < 8 → k < 8
    → byte_product (byte_product (2 ^ i) (2 ^ j)) (2 ^ k) ≡ byte_product (2 ^ i) (byte_product (2 ^ j) (2 ^ k))
assoc_powers i j k hi hj hk =
    eqb-true (byte_product (byte_product (2 ^ i) (2 ^ j)) (2 ^ k)) (byte_product (2 ^ i) (byte_product (2 ^ j) (2 ^ k)))
    (each_at 8 (λ k. assoc_is (2 ^ i) (2 ^ j) (2 ^ k))
    (each_at 8 (λ j. each 8 (λ k. assoc_is (2 ^ i) (2 ^ j) (2 ^ k)))
    (each_at 8 (λ i. each 8 (λ j. each 8 (λ k. assoc_is (2 ^ i) (2 ^ j) (2 ^ k)))) assoc_test i hi) j hj) k hk)

-- in each place the two sides add up
assoc_first : (b c : ℕ) → Additive (λ a. byte_product (byte_product a b) c)
assoc_first b c x y =
    ap (λ (p : ℕ). byte_product p c) (byte_product_left b x y) ∙ byte_product_left c (byte_product x b) (byte_product y b)

assoc_middle_left : (a c : ℕ) → Additive (λ b. byte_product (byte_product a b) c)
assoc_middle_left a c x y =
    ap (λ (p : ℕ). byte_product p c) (byte_product_right a x y) ∙ byte_product_left c (byte_product a x) (byte_product a y)

assoc_middle_right : (a c : ℕ) → Additive (λ b. byte_product a (byte_product b c))
assoc_middle_right a c x y =
    ap (byte_product a) (byte_product_left c x y) ∙ byte_product_right a (byte_product x c) (byte_product y c)

assoc_last : (a b : ℕ) → Additive (λ c. byte_product a (byte_product b c))
assoc_last a b x y =
    ap (byte_product a) (byte_product_right b x y) ∙ byte_product_right a (byte_product b x) (byte_product b y)

assoc_two : (i j c : ℕ) → i < 8 → j < 8 → c < 256
    → byte_product (byte_product (2 ^ i) (2 ^ j)) c ≡ byte_product (2 ^ i) (byte_product (2 ^ j) c)
assoc_two i j c hi hj hc =
    agree (byte_product (byte_product (2 ^ i) (2 ^ j))) (λ c. byte_product (2 ^ i) (byte_product (2 ^ j) c))
    (byte_product_right (byte_product (2 ^ i) (2 ^ j))) (assoc_last (2 ^ i) (2 ^ j)) 8
    (λ k hk. assoc_powers i j k hi hj hk) c hc

assoc_one : (i b c : ℕ) → i < 8 → b < 256 → c < 256
    → byte_product (byte_product (2 ^ i) b) c ≡ byte_product (2 ^ i) (byte_product b c)
assoc_one i b c hi hb hc =
    agree (λ b. byte_product (byte_product (2 ^ i) b) c) (λ b. byte_product (2 ^ i) (byte_product b c))
    (assoc_middle_left (2 ^ i) c) (assoc_middle_right (2 ^ i) c) 8
    (λ j hj. assoc_two i j c hi hj hc) b hb

pub byte_product_assoc : (a b c : ℕ) → a < 256 → b < 256 → c < 256
    → byte_product (byte_product a b) c ≡ byte_product a (byte_product b c)
byte_product_assoc a b c ha hb hc =
    agree (λ a. byte_product (byte_product a b) c) (λ a. byte_product a (byte_product b c))
    (assoc_first b c) (byte_product_left (byte_product b c)) 8
    (λ i hi. assoc_one i b c hi hb hc) a ha

-- ---- the laws of the kind, each as its field of `Lawful (bytes t)`, for any table t

code : (a : ℕ) → a % 256 < 256
code a = mod-lt a (lit< tt)

module _ (t : List (List ℕ)) where
  pub sum_below : (a b : ℕ) → (bytes t).sum a b < (bytes t).size
  sum_below a b = xor_lt 8 (a % 256) (b % 256) (code a) (code b)

  pub negative_below : (a : ℕ) → (bytes t).negative a < (bytes t).size
  negative_below a = code a

  pub product_below : (a b : ℕ) → (bytes t).product a b < (bytes t).size
  product_below a b = byte_product_below (a % 256) (b % 256) (code a)

  pub sum_counts : (a b : ℕ) → (bytes t).sum a b ≡ (bytes t).sum (a % (bytes t).size) (b % (bytes t).size)
  sum_counts a b = sym (ap₂ bit_xor (mod-mod a 256) (mod-mod b 256))

  pub negative_counts : (a : ℕ) → (bytes t).negative a ≡ (bytes t).negative (a % (bytes t).size)
  negative_counts a = sym (mod-mod a 256)

  pub product_counts : (a b : ℕ) → (bytes t).product a b ≡ (bytes t).product (a % (bytes t).size) (b % (bytes t).size)
  product_counts a b = sym (ap₂ byte_product (mod-mod a 256) (mod-mod b 256))

  pub sum_assoc : (a b c : ℕ) → a < (bytes t).size → b < (bytes t).size → c < (bytes t).size
      → (bytes t).sum ((bytes t).sum a b) c ≡ (bytes t).sum a ((bytes t).sum b c)
  sum_assoc a b c ha hb hc =
      ap (λ (x : ℕ). bit_xor x (c % 256)) (mod-eq_of_lt (sum_below a b)) ∙ xor_assoc (a % 256) (b % 256) (c % 256)
      ∙ ap (bit_xor (a % 256)) (sym (mod-eq_of_lt (sum_below b c)))

  pub sum_comm : (a b : ℕ) → a < (bytes t).size → b < (bytes t).size → (bytes t).sum a b ≡ (bytes t).sum b a
  sum_comm a b ha hb = xor_comm (a % 256) (b % 256)

  pub sum_zero : (a : ℕ) → a < (bytes t).size → (bytes t).sum a 0 ≡ a
  sum_zero a h = xor_zero_r (a % 256) ∙ mod-eq_of_lt h

  pub sum_negative : (a : ℕ) → a < (bytes t).size → (bytes t).sum a ((bytes t).negative a) ≡ 0
  sum_negative a h = ap (bit_xor (a % 256)) (mod-mod a 256) ∙ xor_self (a % 256)

  pub product_assoc : (a b c : ℕ) → a < (bytes t).size → b < (bytes t).size → c < (bytes t).size
      → (bytes t).product ((bytes t).product a b) c ≡ (bytes t).product a ((bytes t).product b c)
  product_assoc a b c ha hb hc =
      ap (λ (x : ℕ). byte_product x (c % 256)) (mod-eq_of_lt (product_below a b))
      ∙ byte_product_assoc (a % 256) (b % 256) (c % 256) (code a) (code b) (code c)
      ∙ ap (byte_product (a % 256)) (sym (mod-eq_of_lt (product_below b c)))

  pub product_comm : (a b : ℕ) → a < (bytes t).size → b < (bytes t).size → (bytes t).product a b ≡ (bytes t).product b a
  product_comm a b ha hb = byte_product_comm (a % 256) (b % 256) (code a) (code b)

  pub distributes : (a b c : ℕ) → a < (bytes t).size → b < (bytes t).size → c < (bytes t).size
      → (bytes t).product a ((bytes t).sum b c) ≡ (bytes t).sum ((bytes t).product a b) ((bytes t).product a c)
  distributes a b c ha hb hc =
      ap (byte_product (a % 256)) (mod-eq_of_lt (sum_below b c)) ∙ byte_product_right (a % 256) (b % 256) (c % 256)
      ∙ sym (ap₂ bit_xor (mod-eq_of_lt (product_below a b)) (mod-eq_of_lt (product_below a c)))

  pub unit_not_zero : (bytes t).unit ≢ 0
  unit_not_zero = omega arith

  pub unit_times : (a : ℕ) → a < (bytes t).size → (bytes t).product (bytes t).unit a ≡ a
  unit_times a h = byte_product_unit (a % 256) (code a) ∙ mod-eq_of_lt h

-- the kind of bytes, over a table that passes the test of all gaps
pub lawful_bytes : (t : List (List ℕ)) → all_gaps (bytes t) ≡ true → Lawful (bytes t)
lawful_bytes t passed = record {
  size_low = omega arith;
  size_high = omega arith;
  sum_below = sum_below t;
  negative_below = negative_below t;
  product_below = product_below t;
  unit_below = omega arith;
  point_below = point_below 256 (lit< tt);
  reciprocal_below = reciprocal_below (bytes t) t (λ i j. refl) (lit< tt) passed;
  sum_counts = sum_counts t;
  negative_counts = negative_counts t;
  product_counts = product_counts t;
  sum_assoc = sum_assoc t;
  sum_comm = sum_comm t;
  sum_zero = sum_zero t;
  sum_negative = sum_negative t;
  product_assoc = product_assoc t;
  product_comm = product_comm t;
  distributes = distributes t;
  unit_not_zero = unit_not_zero t;
  unit_times = unit_times t;
  point_zero = refl;
  point_past = point_past;
  reciprocal_same = reciprocal_same (bytes t) t (λ i j. refl) (lit< tt) passed;
  reciprocal_past_left = entry_past_left t;
  reciprocal_past_right = entry_past_right t;
  gap = gap_law (bytes t) passed;
}
