-- What sharing promises, proved once for every lawful kind.
-- Assumes nothing.
use Rattle.std.proofs.Common.{◌≡◌, ℕ, ◌-◌, ◌<◌, ◌≤◌, true, List, ◌∷◌, map, length, Some, sym, refl, ap, ◌∙◌, ap₂, arith}
use lib.Lanes.{zip2}
use lib.ListN.{length-map}
use Rattle.std.specs.Option.{ok_or}
use Rattle.std.proofs.lemmas.Simd.{length-zip2}
use Rattle.std.proofs.lemmas.List.FromFn.{length-range_with_len}
use Rattle.kinds.specs.Kind.{Ops, Lawful, difference}
use Rattle.sharing.specs.Shares.{seats_to, weights_of}
use Rattle.sharing.specs.Rebuilding.{apart, holds, is_seat, fitted}
use Rattle.sharing.specs.Masks.{mask_of, shifted}
use Rattle.sharing.specs.Promises.{values_at, constant_of, Recombines, Multiplies, Rebuilds, AnswersTheOne, RefusesWhenNone, Masks, Hides}
use Rattle.sharing.specs.declared.refusal.Refusal.TheVariants.{NoFit}
use Rattle.sharing.proofs.Ring.{Ring, Points}
use Rattle.sharing.proofs.RingLaws.{ring, units, plus_neg_past}
use Rattle.sharing.proofs.Polynomials.{eval, scale, eval_add, eval_scale}
use Rattle.sharing.proofs.Lagrange.{combine, lagrange, lagrange_product}
use Rattle.sharing.proofs.Newton.{values, constant, complete, sound, unique}
use Rattle.sharing.proofs.Masking.{mask_zero}
use Rattle.sharing.proofs.Codes.{Code, code, to, codes, places, last_is, to_injective, to_lists_injective, codes_below, to_codes, codes_to, to_zero, to_unit, to_product, to_difference}
use Rattle.sharing.proofs.Crossing.{to_value_at_point, to_values_at, to_constant, value_below, values_below, constant_below, to_weights, to_weighed, weighed_below, to_products, to_mask_of, length_mask_of, to_shifted, shifted_below}
use Rattle.sharing.proofs.Seats.{seat_range, holds_member, apart_seats, apart_to}
use Rattle.sharing.proofs.Fitting.{fitted_some, fitted_found}
use Rattle.sharing.proofs.Admitted.{admitted_ok, admitted_none, rebuilt_is}

module _ {C : Type 0} (R : Ring C) where
  open R use {zero, one, plus as ◌⊕◌, neg, times as ◌⊗◌}

  infixl 65 ◌⊕◌
  infixl 70 ◌⊗◌
  -- the constant moves by d and the others by d times m, where 1 + x × m is zero: the value stays
  moved_step : (f g d x s m : C) → d ≡ g ⊕ neg f → one ⊕ x ⊗ m ≡ zero → g ⊕ x ⊗ (s ⊕ d ⊗ m) ≡ f ⊕ x ⊗ s
  moved_step f g d x s m gap none =
      ap (λ v. v ⊕ x ⊗ (s ⊕ d ⊗ m)) (sym (plus_neg_past R f g) ∙ ap (λ v. f ⊕ v) (sym gap))
      ∙ regroup ∙ ap (λ v. (f ⊕ x ⊗ s) ⊕ d ⊗ v) none ∙ last
    where
      regroup : (f ⊕ d) ⊕ x ⊗ (s ⊕ d ⊗ m) ≡ (f ⊕ x ⊗ s) ⊕ d ⊗ (one ⊕ x ⊗ m)
      regroup = simp ring

      last : (f ⊕ x ⊗ s) ⊕ d ⊗ zero ≡ f ⊕ x ⊗ s
      last = simp units

module _ (o : Ops) (L : Lawful o) where
  abbrev C : Type 0
  C = Code o

  abbrev R : Ring C
  R = codes o L

  abbrev P : Points R
  P = places o L

  abbrev τ : ℕ → C
  τ = to o L

  open R use {zero, one, plus as ◌⊕◌, times as ◌⊗◌}
  open P use {point}

  infixl 65 ◌⊕◌
  infixl 70 ◌⊗◌
  -- the weights give the constant
  pub recombines : Recombines o
  recombines n f hn hf hc =
      to_injective o L _ _ (weighed_below o L (weights_of o n) (values_at o f (seats_to n))) hc
      (to_weighed o L (weights_of o n) (values_at o f (seats_to n))
      ∙ ap₂ (combine R P) (to_weights o L (seats_to n) (seats_to n)) (to_values_at o L f (seats_to n))
      ∙ lagrange R P (seats_to n) (map τ f) (apart_to o L n hn) (simp (length-map, length-range_with_len) hf)
      ∙ sym (to_constant o L f))

  -- the weights give the product of the constants
  pub multiplies : Multiplies o
  multiplies n k f g hn room hf hg =
      let products : List ℕ = zip2 o.product (values_at o f (seats_to n)) (values_at o g (seats_to n)) in
      to_injective o L _ _ (weighed_below o L (weights_of o n) products) (L.product_below (constant_of f) (constant_of g))
      (to_weighed o L (weights_of o n) products
      ∙ ap₂ (combine R P) (to_weights o L (seats_to n) (seats_to n)) (to_products o L f g (seats_to n))
      ∙ lagrange_product R P (seats_to n) (map τ f) (map τ g) k (apart_to o L n hn) (simp length-map hf) (simp length-map hg) (simp length-range_with_len room)
      ∙ sym (to_product o L (constant_of f) (constant_of g) ∙ ap₂ ◌⊗◌ (to_constant o L f) (to_constant o L g)))

  -- the values of a polynomial of k coefficients are fitted by its constant
  pub fitted_values : (k : ℕ) (f seats : List ℕ) → apart seats ≡ true → length f ≡ k → k ≤ length seats → constant_of f < o.size →
      fitted o k seats (values_at o f seats) ≡ Some (constant_of f)
  fitted_values k f seats apart long room low =
      let same = to_values_at o L f seats in
      let (left, first) = complete R P k seats (map τ f) (apart_seats o L seats apart) (length-map f τ ∙ long) room in
      let (c, found) = fitted_found o L k seats (values_at o f seats) (values_below o L f seats) (length-map seats _) room (rw same left) in
      let (_, is, small) = fitted_some o L k seats (values_at o f seats) c found in
      found ∙ ap Some (to_injective o L c (constant_of f) small low (is ∙ ap (constant R P k seats) same ∙ first ∙ sym (to_constant o L f)))

  -- k or more true shares rebuild the figure
  pub rebuilds : Rebuilds o
  rebuilds k figure strip seats least most low long separate enough room =
      let f : List ℕ = figure ∷ strip in
      rebuilt_is o k seats (values_at o f seats)
      (record { low = least; high = most; paired = length-map seats _; enough = enough; most = room; separate = separate; below = values_below o L f seats })
      ∙ ap (λ x. ok_or x NoFit) (fitted_values k f seats separate (omega arith) enough low)

  -- an answer is the constant of the one polynomial that fits
  pub answers_the_one : AnswersTheOne o
  answers_the_one k c seats shares e =
      let (a, found) = admitted_ok o k seats shares c e in
      let separate = apart_seats o L seats a.separate in
      let (left, first, small) = fitted_some o L k seats shares c found in
      let (f, long, through, at_zero) = sound R P k seats (map τ shares) separate (length-map shares τ ∙ a.paired) a.enough left in
      let F : List ℕ = map (code o) f in
      let back : map τ F ≡ f = to_codes o L f in
      let same : map τ (values_at o F seats) ≡ map τ shares = to_values_at o L F seats ∙ ap (λ g. values R P g seats) back ∙ through in (
        F,
        record {
          coefficients = length-map f (code o) ∙ long;
          below = codes_below o L f;
          through = to_lists_injective o L (values_at o F seats) shares (values_below o L F seats) a.below same;
        },
        to_injective o L (constant_of F) c (constant_below o L F (codes_below o L f)) small
            (to_constant o L F ∙ ap (λ g. eval R g zero) back ∙ at_zero ∙ sym first),
        λ g fits.
            sym (codes_to o L g fits.below)
            ∙ ap (map (code o))
            (unique R P seats (map τ g) f separate (length-map g τ ∙ fits.coefficients ∙ sym long) (simp length-map (omega (arith, a.enough, fits.coefficients)))
            (sym (to_values_at o L g seats) ∙ ap (map τ) fits.through ∙ sym through)),
      )

  -- the refusal that none fits says that there is none
  pub refuses_when_none : RefusesWhenNone o
  refuses_when_none k seats shares e f fits =
      let (a, none) = admitted_none o k seats shares e in
      let found = fitted_values k f seats a.separate fits.coefficients a.enough (constant_below o L f fits.below) in
      let here = ap (fitted o k seats) fits.through in
      let z : ◌≡◌ {A = ℕ} 0 1 = cc in
      omega arith

  -- the polynomial 1 + mask is zero at each seat of the group
  mask_none : (group : List ℕ) (m s : ℕ) → length group ≤ m → is_seat s ≡ true → holds s group ≡ true →
      eval R (one ∷ map τ (mask_of o group m)) (point s) ≡ zero
  mask_none group m s room seat here =
      let (low, high) = seat_range s seat in
      ap (λ d. eval R (one ∷ d) (point s)) (to_mask_of o L group m)
      ∙ mask_zero R P group m room s low (omega (arith, last_is o L)) (holds_member s group here)

  -- along the mask the unit has share 0 at each seat of the group
  pub masks : Masks o
  masks k group few s seat here =
      let m : List ℕ = mask_of o group (k - 1) in
      to_injective o L _ 0 (value_below o L (o.unit ∷ m) (o.point s)) (omega (arith, L.size_low))
      (to_value_at_point o L (o.unit ∷ m) s
      ∙ ap (λ u. eval R (u ∷ map τ m) (point s)) (to_unit o L)
      ∙ mask_none group (k - 1) s (omega arith) seat here
      ∙ sym (to_zero o L))

  -- fewer than k seats cannot tell two figures apart
  pub hides : Hides o
  hides k group few figure other strip long =
      let m : List ℕ = mask_of o group (k - 1) in
      let by : ℕ = difference o other figure in
      let there : List ℕ = shifted o by m strip in
      let paired : length strip ≡ length m = long ∙ sym (length_mask_of o L group (k - 1)) in (
        there,
        refl,
        length-zip2 _ strip m paired ∙ long,
        shifted_below o L by m strip,
        λ s seat here.
            to_injective o L _ _ (value_below o L (other ∷ there) (o.point s)) (value_below o L (figure ∷ strip) (o.point s))
            (to_value_at_point o L (other ∷ there) s
            ∙ ap (λ v. τ other ⊕ point s ⊗ v)
            (ap (λ g. eval R g (point s)) (to_shifted o L by m strip paired)
            ∙ eval_add R (map τ strip) (scale R (τ by) (map τ m)) (point s)
            ∙ ap (λ v. eval R (map τ strip) (point s) ⊕ v) (eval_scale R (τ by) (map τ m) (point s)))
            ∙ moved_step R (τ figure) (τ other) (τ by) (point s) _ _ (to_difference o L other figure) (mask_none group (k - 1) s (omega arith) seat here)
            ∙ sym (to_value_at_point o L (figure ∷ strip) s)),
      )
