-- The shares of one line, or the letters of one seat, in two runs: in each they lie on a polynomial of k coefficients
-- whose constant is the value, and from run to run they differ by a multiple of the mask. Sound shares of a single run
-- are the case of equal runs. Assumes nothing.
use Rattle.std.proofs.Common.{◌≡◌, ℕ, suc, ◌+◌, ◌-◌, ◌<◌, ◌≤◌, true, List, ◌∷◌, map, length, Ok, sym, ap, ◌∙◌, ap₂, arith}
use lib.ListN.{length-map}
use Rattle.std.specs.Option.{ok_or}
use Rattle.std.proofs.lemmas.List.FromFn.{length-range_with_len}
use Rattle.std.proofs.lemmas.Simd.{length-zip2}
use Rattle.kinds.specs.Kind.{Ops, Lawful, difference}
use Rattle.sharing.specs.Masks.{mask_of, shifted}
use Rattle.sharing.specs.Promises.{values_at, constant_of}
use Rattle.sharing.specs.Rebuilding.{apart, holds, rebuilt, least_threshold, most_threshold}
use Rattle.sharing.specs.Shares.{most_seats, seats_to, value_at, share_at, weights_of, weighed}
use Rattle.sharing.specs.declared.refusal.Refusal.TheVariants.{NoFit}
use Rattle.sharing.proofs.Admitted.{rebuilt_is}
use Rattle.sharing.proofs.Codes.{Code, code, codes, places, to, last_is, to_codes, codes_below, to_injective, to_sum, to_product, to_difference}
use Rattle.sharing.proofs.Crossing.{to_value_at_point, to_constant, value_below, values_below, constant_below, to_weights, to_weighed, weighed_below, to_mask_of, to_shifted}
use Rattle.sharing.proofs.Lagrange.{weight, combine, lagrange, lagrange_product}
use Rattle.sharing.proofs.Masking.{mask_zero}
use Rattle.sharing.proofs.Polynomials.{eval, add, scale, eval_zero, eval_add, eval_scale}
use Rattle.sharing.proofs.Promises.{fitted_values}
use Rattle.sharing.proofs.Ring.{Ring, Points}
use Rattle.sharing.proofs.Seats.{holds_member, apart_to}
use Rattle.privacy.specs.Totals.{SeatsOf}
use Rattle.privacy.proofs.Blends.{seats_counted, seat_within, map_same, map_twice, moved_by, moved_none, moved_at_zero, moved_sum, moved_scale, moved_back, length_sum, sum_differs, blend, length_blend, eval_blend}

module _ (o : Ops) (L : Lawful o) (n k : ℕ) (mask : List ℕ) where
  open codes o L use {zero, one, plus as ◌⊕◌, neg, times as ◌⊗◌}
  open places o L use {point}

  infixl 60 ◌⊕◌
  infixl 70 ◌⊗◌
  -- the mask polynomial, 1 + d_1 x + .., at a seat's point
  abbrev pub mask_at : ℕ → Code o
  mask_at i = eval (codes o L) (one ∷ map (to o L) mask) (point i)

  pub record Joint (x y : ℕ → ℕ) (v w : ℕ) : Type 0 where
    pub f : List (Code o)
    pub g : List (Code o)
    pub f_long : length f ≡ k
    pub g_long : length g ≡ k
    pub f_constant : eval (codes o L) f zero ≡ to o L v
    pub g_constant : eval (codes o L) g zero ≡ to o L w
    pub x_on : (i : ℕ) → 1 ≤ i → i ≤ n → to o L (x i) ≡ eval (codes o L) f (point i)
    pub y_on : (i : ℕ) → 1 ≤ i → i ≤ n → to o L (y i) ≡ eval (codes o L) g (point i)
    pub differ : (i : ℕ) → 1 ≤ i → i ≤ n → to o L (y i) ≡ to o L (x i) ⊕ (to o L w ⊕ neg (to o L v)) ⊗ mask_at i
    pub x_below : (i : ℕ) → 1 ≤ i → i ≤ n → x i < o.size
    pub y_below : (i : ℕ) → 1 ≤ i → i ≤ n → y i < o.size
    pub v_below : v < o.size
    pub w_below : w < o.size

  -- a value shared along a strip, and another along the strip moved by the mask
  pub joint_moved : (v w : ℕ) (strip : List ℕ) → v < o.size → w < o.size → length strip + 1 ≡ k → length mask + 1 ≡ k
      → Joint (share_at o v strip) (share_at o w (shifted o (difference o w v) mask strip)) v w
  joint_moved v w strip hv hw ls lm =
      let R : Ring (Code o) = codes o L in
      let τ : ℕ → Code o = to o L in
      let d : ℕ = difference o w v in
      let there : List ℕ = shifted o d mask strip in
      let paired : length strip ≡ length mask = omega arith in
      let long : length there ≡ length strip = length-zip2 _ strip mask paired in
      record {
        f = map τ (v ∷ strip);
        g = map τ (w ∷ there);
        f_long = simp length-map (omega arith);
        g_long = simp length-map (omega arith);
        f_constant = eval_zero R (τ v) (map τ strip);
        g_constant = eval_zero R (τ w) (map τ there);
        x_on = λ i low high. to_value_at_point o L (v ∷ strip) i;
        y_on = λ i low high. to_value_at_point o L (w ∷ there) i;
        differ = λ i low high.
            to_value_at_point o L (w ∷ there) i
            ∙ ap (λ c. τ w ⊕ point i ⊗ c)
            (ap (λ h. eval R h (point i)) (to_shifted o L d mask strip paired)
            ∙ eval_add R (map τ strip) (scale R (τ d) (map τ mask)) (point i)
            ∙ ap (λ c. eval R (map τ strip) (point i) ⊕ c)
            (eval_scale R (τ d) (map τ mask) (point i) ∙ ap (λ c. c ⊗ eval R (map τ mask) (point i)) (to_difference o L w v)))
            ∙ moved_by R (τ v) (τ w) (point i) (eval R (map τ strip) (point i)) (eval R (map τ mask) (point i))
            ∙ ap (λ c. c ⊕ (τ w ⊕ neg (τ v)) ⊗ mask_at i) (sym (to_value_at_point o L (v ∷ strip) i));
        x_below = λ i low high. value_below o L (v ∷ strip) (o.point i);
        y_below = λ i low high. value_below o L (w ∷ there) (o.point i);
        v_below = hv;
        w_below = hw;
      }

  -- one value shared along one strip in both runs
  pub joint_alike : (v : ℕ) (strip : List ℕ) → v < o.size → length strip + 1 ≡ k → Joint (share_at o v strip) (share_at o v strip) v v
  joint_alike v strip hv ls =
      let f : List (Code o) = map (to o L) (v ∷ strip) in
      let long : length f ≡ k = simp length-map (omega arith) in
      let first : eval (codes o L) f zero ≡ to o L v = eval_zero (codes o L) (to o L v) (map (to o L) strip) in
      let on : (i : ℕ) → 1 ≤ i → i ≤ n → to o L (share_at o v strip i) ≡ eval (codes o L) f (point i) = λ i low high. to_value_at_point o L (v ∷ strip) i in
      let below : (i : ℕ) → 1 ≤ i → i ≤ n → share_at o v strip i < o.size = λ i low high. value_below o L (v ∷ strip) (o.point i) in
      record {
        f = f;
        g = f;
        f_long = long;
        g_long = long;
        f_constant = first;
        g_constant = first;
        x_on = on;
        y_on = on;
        differ = λ i low high. moved_none (codes o L) (to o L (share_at o v strip i)) (to o L v) (mask_at i);
        x_below = below;
        y_below = below;
        v_below = hv;
        w_below = hv;
      }

  pub joint_sum : {x y x' y' : ℕ → ℕ} {v w v' w' : ℕ} → Joint x y v w → Joint x' y' v' w'
      → Joint (λ i. o.sum (x i) (x' i)) (λ i. o.sum (y i) (y' i)) (o.sum v v') (o.sum w w')
  joint_sum {x} {y} {x'} {y'} {v} {w} {v'} {w'} a b =
      let R : Ring (Code o) = codes o L in
      let τ : ℕ → Code o = to o L in
      record {
        f = add R a.f b.f;
        g = add R a.g b.g;
        f_long = length_sum R a.f b.f k a.f_long b.f_long;
        g_long = length_sum R a.g b.g k a.g_long b.g_long;
        f_constant = eval_add R a.f b.f zero ∙ ap₂ ◌⊕◌ a.f_constant b.f_constant ∙ sym (to_sum o L v v');
        g_constant = eval_add R a.g b.g zero ∙ ap₂ ◌⊕◌ a.g_constant b.g_constant ∙ sym (to_sum o L w w');
        x_on = λ i low high. to_sum o L (x i) (x' i) ∙ ap₂ ◌⊕◌ (a.x_on i low high) (b.x_on i low high) ∙ sym (eval_add R a.f b.f (point i));
        y_on = λ i low high. to_sum o L (y i) (y' i) ∙ ap₂ ◌⊕◌ (a.y_on i low high) (b.y_on i low high) ∙ sym (eval_add R a.g b.g (point i));
        differ = λ i low high.
            to_sum o L (y i) (y' i)
            ∙ ap₂ ◌⊕◌ (a.differ i low high) (b.differ i low high)
            ∙ moved_sum R (τ (x i)) (τ (x' i)) (τ v) (τ w) (τ v') (τ w') (mask_at i)
            ∙ ap₂ (λ c d. c ⊕ d ⊗ mask_at i) (sym (to_sum o L (x i) (x' i)))
            (ap₂ (λ c d. c ⊕ neg d) (sym (to_sum o L w w')) (sym (to_sum o L v v')));
        x_below = λ i low high. L.sum_below (x i) (x' i);
        y_below = λ i low high. L.sum_below (y i) (y' i);
        v_below = L.sum_below v v';
        w_below = L.sum_below w w';
      }

  pub joint_scale : (c : ℕ) {x y : ℕ → ℕ} {v w : ℕ} → Joint x y v w → Joint (λ i. o.product c (x i)) (λ i. o.product c (y i)) (o.product c v) (o.product c w)
  joint_scale c {x} {y} {v} {w} a =
      let R : Ring (Code o) = codes o L in
      let τ : ℕ → Code o = to o L in
      record {
        f = scale R (τ c) a.f;
        g = scale R (τ c) a.g;
        f_long = length-map a.f _ ∙ a.f_long;
        g_long = length-map a.g _ ∙ a.g_long;
        f_constant = eval_scale R (τ c) a.f zero ∙ ap (◌⊗◌ (τ c)) a.f_constant ∙ sym (to_product o L c v);
        g_constant = eval_scale R (τ c) a.g zero ∙ ap (◌⊗◌ (τ c)) a.g_constant ∙ sym (to_product o L c w);
        x_on = λ i low high. to_product o L c (x i) ∙ ap (◌⊗◌ (τ c)) (a.x_on i low high) ∙ sym (eval_scale R (τ c) a.f (point i));
        y_on = λ i low high. to_product o L c (y i) ∙ ap (◌⊗◌ (τ c)) (a.y_on i low high) ∙ sym (eval_scale R (τ c) a.g (point i));
        differ = λ i low high.
            to_product o L c (y i)
            ∙ ap (◌⊗◌ (τ c)) (a.differ i low high)
            ∙ moved_scale R (τ c) (τ (x i)) (τ v) (τ w) (mask_at i)
            ∙ ap₂ (λ c d. c ⊕ d ⊗ mask_at i) (sym (to_product o L c (x i)))
            (ap₂ (λ c d. c ⊕ neg d) (sym (to_product o L c w)) (sym (to_product o L c v)));
        x_below = λ i low high. L.product_below c (x i);
        y_below = λ i low high. L.product_below c (y i);
        v_below = L.product_below c v;
        w_below = L.product_below c w;
      }

  -- what the weights of n seats make of some codes, in the ring
  weighed_is : (x : ℕ → ℕ) → to o L (weighed o (weights_of o n) (map x (seats_to n)))
      ≡ combine (codes o L) (places o L) (map (weight (codes o L) (places o L) (seats_to n)) (seats_to n)) (map (λ s. to o L (x s)) (seats_to n))
  weighed_is x =
      to_weighed o L (weights_of o n) (map x (seats_to n))
      ∙ ap₂ (combine (codes o L) (places o L)) (to_weights o L (seats_to n) (seats_to n)) (map_twice (to o L) x (seats_to n))

  of_seats : SeatsOf n (seats_to n)
  of_seats = seats_counted n 1 n (omega arith) (omega arith)

  -- the products of the shares of two values, each times its weight, add up to the product of the values
  product_total : (x x' : ℕ → ℕ) (v v' : ℕ) (f f' : List (Code o)) → n ≤ most_seats → k + k ≤ suc n → length f ≡ k → length f' ≡ k
      → eval (codes o L) f zero ≡ to o L v → eval (codes o L) f' zero ≡ to o L v'
      → ((i : ℕ) → 1 ≤ i → i ≤ n → to o L (x i) ≡ eval (codes o L) f (point i)) → ((i : ℕ) → 1 ≤ i → i ≤ n → to o L (x' i) ≡ eval (codes o L) f' (point i))
      → combine (codes o L) (places o L) (map (weight (codes o L) (places o L) (seats_to n)) (seats_to n)) (map (λ s. to o L (o.product (x s) (x' s))) (seats_to n))
      ≡ to o L (o.product v v')
  product_total x x' v v' f f' hn hk long long' first first' on on' =
      let R : Ring (Code o) = codes o L in
      let P : Points R = places o L in
      let τ : ℕ → Code o = to o L in
      let S : List ℕ = seats_to n in
      ap (combine R P (map (weight R P S) S))
      (map_same n (λ s. τ (o.product (x s) (x' s))) (λ s. eval R f (point s) ⊗ eval R f' (point s))
      (λ s low high. to_product o L (x s) (x' s) ∙ ap₂ ◌⊗◌ (on s low high) (on' s low high)) S of_seats)
      ∙ lagrange_product R P S f f' k (apart_to o L n hn) (omega arith) (omega arith) (simp length-range_with_len hk)
      ∙ ap₂ ◌⊗◌ first first'
      ∙ sym (to_product o L v v')

  -- a product by resharing: each seat s shares the product of its shares of a and b afresh, and each seat i weighs the
  -- letters that it got
  pub joint_gather : {xa ya xb yb : ℕ → ℕ} {va wa vb wb : ℕ} (letter letter' : ℕ → ℕ → ℕ) → n ≤ most_seats → k + k ≤ suc n → 1 ≤ k
      → Joint xa ya va wa → Joint xb yb vb wb
      → ((s : ℕ) → 1 ≤ s → s ≤ n → Joint (λ i. letter i s) (λ i. letter' i s) (o.product (xa s) (xb s)) (o.product (ya s) (yb s)))
      → Joint (λ i. weighed o (weights_of o n) (map (letter i) (seats_to n))) (λ i. weighed o (weights_of o n) (map (letter' i) (seats_to n))) (o.product va vb) (o.product wa wb)
  joint_gather {xa} {ya} {xb} {yb} {va} {wa} {vb} {wb} letter letter' hn hk pos a b ls =
      let R : Ring (Code o) = codes o L in
      let P : Points R = places o L in
      let τ : ℕ → Code o = to o L in
      let S : List ℕ = seats_to n in
      let W : ℕ → Code o = weight R P S in
      let ws : List ℕ = weights_of o n in
      let fs : (s : ℕ) → 1 ≤ s → s ≤ n → List (Code o) = λ s low high. (ls s low high).f in
      let gs : (s : ℕ) → 1 ≤ s → s ≤ n → List (Code o) = λ s low high. (ls s low high).g in
      let p : ℕ → Code o = λ s. τ (o.product (xa s) (xb s)) in
      let q : ℕ → Code o = λ s. τ (o.product (ya s) (yb s)) in
      let whole_p : combine R P (map W S) (map p S) ≡ τ (o.product va vb) =
      product_total xa xb va vb a.f b.f hn hk a.f_long b.f_long a.f_constant b.f_constant a.x_on b.x_on in
      let whole_q : combine R P (map W S) (map q S) ≡ τ (o.product wa wb) =
      product_total ya yb wa wb a.g b.g hn hk a.g_long b.g_long a.g_constant b.g_constant a.y_on b.y_on in
      record {
        f = blend R P n W k fs S of_seats;
        g = blend R P n W k gs S of_seats;
        f_long = length_blend R P n W k fs (λ s low high. (ls s low high).f_long) S of_seats;
        g_long = length_blend R P n W k gs (λ s low high. (ls s low high).g_long) S of_seats;
        f_constant = sym (eval_blend R P n W k fs zero p (λ s low high. sym (ls s low high).f_constant) S of_seats) ∙ whole_p;
        g_constant = sym (eval_blend R P n W k gs zero q (λ s low high. sym (ls s low high).g_constant) S of_seats) ∙ whole_q;
        x_on = λ i low high.
            weighed_is (letter i)
            ∙ eval_blend R P n W k fs (point i) (λ s. τ (letter i s)) (λ s from upto. (ls s from upto).x_on i low high) S of_seats;
        y_on = λ i low high.
            weighed_is (letter' i)
            ∙ eval_blend R P n W k gs (point i) (λ s. τ (letter' i s)) (λ s from upto. (ls s from upto).y_on i low high) S of_seats;
        differ = λ i low high.
            weighed_is (letter' i)
            ∙ sum_differs R P n W (λ s. τ (letter i s)) (λ s. τ (letter' i s)) p q (mask_at i) (λ s from upto. (ls s from upto).differ i low high) S of_seats
            ∙ ap₂ (λ c d. c ⊕ d ⊗ mask_at i) (sym (weighed_is (letter i))) (ap₂ (λ c d. c ⊕ neg d) whole_q whole_p);
        x_below = λ i low high. weighed_below o L ws (map (letter i) S);
        y_below = λ i low high. weighed_below o L ws (map (letter' i) S);
        v_below = L.product_below va vb;
        w_below = L.product_below wa wb;
      }

  -- the same, with the two runs exchanged
  pub joint_swap : {x y : ℕ → ℕ} {v w : ℕ} → Joint x y v w → Joint y x w v
  joint_swap {x} {y} {v} {w} a =
      let τ : ℕ → Code o = to o L in
      record {
        f = a.g;
        g = a.f;
        f_long = a.g_long;
        g_long = a.f_long;
        f_constant = a.g_constant;
        g_constant = a.f_constant;
        x_on = a.y_on;
        y_on = a.x_on;
        differ = λ i low high.
            moved_back (codes o L) (τ (x i)) (τ v) (τ w) (mask_at i)
            ∙ ap (λ c. c ⊕ (τ v ⊕ neg (τ w)) ⊗ mask_at i) (sym (a.differ i low high));
        x_below = a.y_below;
        y_below = a.x_below;
        v_below = a.w_below;
        w_below = a.v_below;
      }

  -- equal shares give the same predicate
  pub joint_cong : {x y x' y' : ℕ → ℕ} {v w : ℕ} → ((i : ℕ) → 1 ≤ i → i ≤ n → x' i ≡ x i) → ((i : ℕ) → 1 ≤ i → i ≤ n → y' i ≡ y i) → Joint x y v w → Joint x' y' v w
  joint_cong {x} {y} {x'} {y'} {v} {w} ex ey a =
      let τ : ℕ → Code o = to o L in
      record {
        f = a.f;
        g = a.g;
        f_long = a.f_long;
        g_long = a.g_long;
        f_constant = a.f_constant;
        g_constant = a.g_constant;
        x_on = λ i low high. ap τ (ex i low high) ∙ a.x_on i low high;
        y_on = λ i low high. ap τ (ey i low high) ∙ a.y_on i low high;
        differ = λ i low high.
            ap τ (ey i low high) ∙ a.differ i low high ∙ ap (λ c. τ c ⊕ (τ w ⊕ neg (τ v)) ⊗ mask_at i) (sym (ex i low high));
        x_below = λ i low high. omega (arith, ex i low high, a.x_below i low high);
        y_below = λ i low high. omega (arith, ey i low high, a.y_below i low high);
        v_below = a.v_below;
        w_below = a.w_below;
      }

  -- a seat at which the mask is zero holds the same in both runs
  pub joint_hidden : {x y : ℕ → ℕ} {v w : ℕ} → Joint x y v w → (i : ℕ) → 1 ≤ i → i ≤ n → mask_at i ≡ zero → x i ≡ y i
  joint_hidden {x} {y} {v} {w} a i low high e =
      to_injective o L (x i) (y i) (a.x_below i low high) (a.y_below i low high)
      (sym (a.differ i low high ∙ ap (λ m. to o L (x i) ⊕ (to o L w ⊕ neg (to o L v)) ⊗ m) e ∙ moved_at_zero (codes o L) (to o L (x i)) _))

  -- where the values are equal, each seat holds the same in both runs
  pub joint_level : {x y : ℕ → ℕ} {v w : ℕ} → Joint x y v w → v ≡ w → (i : ℕ) → 1 ≤ i → i ≤ n → x i ≡ y i
  joint_level {x} {y} {v} {w} a e i low high =
      to_injective o L (x i) (y i) (a.x_below i low high) (a.y_below i low high)
      (moved_none (codes o L) (to o L (x i)) (to o L v) (mask_at i)
      ∙ ap (λ c. to o L (x i) ⊕ (to o L c ⊕ neg (to o L v)) ⊗ mask_at i) e
      ∙ sym (a.differ i low high))

  -- the weights of n seats give the value
  pub joint_total : {x y : ℕ → ℕ} {v w : ℕ} → n ≤ most_seats → k ≤ n → Joint x y v w → weighed o (weights_of o n) (map x (seats_to n)) ≡ v
  joint_total {x} {y} {v} hn hk a =
      let R : Ring (Code o) = codes o L in
      let P : Points R = places o L in
      let S : List ℕ = seats_to n in
      to_injective o L _ v (weighed_below o L (weights_of o n) (map x S)) a.v_below
      (weighed_is x
      ∙ ap (combine R P (map (weight R P S) S)) (map_same n (λ s. to o L (x s)) (λ s. eval R a.f (point s)) a.x_on S of_seats)
      ∙ lagrange R P S a.f (apart_to o L n hn) (simp length-range_with_len (omega arith))
      ∙ a.f_constant)

  -- k or more seats' shares rebuild the value
  pub joint_rebuild : {x y : ℕ → ℕ} {v w : ℕ} → Joint x y v w → least_threshold ≤ k → k ≤ most_threshold → (seats : List ℕ) → n ≤ most_seats → SeatsOf n seats → apart seats ≡ true
      → k ≤ length seats → length seats ≤ most_seats → rebuilt o k seats (map x seats) ≡ Ok v
  joint_rebuild {x} {y} {v} a low high seats hn of_n separate enough most =
      let R : Ring (Code o) = codes o L in
      let F : List ℕ = map (code o) a.f in
      let back : map (to o L) F ≡ a.f = to_codes o L a.f in
      let small : constant_of F < o.size = constant_below o L F (codes_below o L a.f) in
      let same : map x seats ≡ values_at o F seats =
      map_same n x (λ i. value_at o F (o.point i))
      (λ i from upto.
      to_injective o L (x i) (value_at o F (o.point i)) (a.x_below i from upto) (value_below o L F (o.point i))
      (a.x_on i from upto ∙ sym (to_value_at_point o L F i ∙ ap (λ h. eval R h (point i)) back)))
      seats of_n in
      let first : constant_of F ≡ v =
      to_injective o L (constant_of F) v small a.v_below (to_constant o L F ∙ ap (λ h. eval R h zero) back ∙ a.f_constant) in
      ap (rebuilt o k seats) same
      ∙ rebuilt_is o k seats (values_at o F seats)
      (record { low = low; high = high; paired = length-map seats _; enough = enough; most = most; separate = separate; below = values_below o L F seats })
      ∙ ap (λ c. ok_or c NoFit) (fitted_values o L k F seats separate (length-map a.f (code o) ∙ a.f_long) enough small)
      ∙ ap Ok first

-- the mask of a group of fewer than k seats is zero at each of them
pub mask_hides : (o : Ops) (L : Lawful o) (n k : ℕ) (group : List ℕ) → n ≤ most_seats → length group < k → SeatsOf n group → (s : ℕ) → holds s group ≡ true
    → (1 ≤ s) × (s ≤ n) × (mask_at o L n k (mask_of o group (k - 1)) s ≡ (codes o L).zero)
mask_hides o L n k group hn few of_n s h =
    let (low, high) = seat_within n s group of_n h in (
      low,
      high,
      ap (λ d. eval (codes o L) ((codes o L).one ∷ d) ((places o L).point s)) (to_mask_of o L group (k - 1))
          ∙ mask_zero (codes o L) (places o L) group (k - 1) (omega arith) s low (omega (arith, last_is o L)) (holds_member s group h),
    )
