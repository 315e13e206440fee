-- The laws of a commutative ring that follow from those of `Ring`, and sets of them for `simp`.
-- Assumes nothing.
use Rattle.std.proofs.Common.{◌≡◌, sym, ap, ◌∙◌}
use Rattle.sharing.proofs.Ring.{Ring}

module _ {C : Type 0} (R : Ring C) where
  open R use {zero, one, plus as ◌⊕◌, neg, times as ◌⊗◌}

  infixl 65 ◌⊕◌
  infixl 70 ◌⊗◌
  pub plus_assoc : (a b c : C) → (a ⊕ b) ⊕ c ≡ a ⊕ (b ⊕ c)
  plus_assoc = R.plus_assoc

  pub plus_comm : (a b : C) → a ⊕ b ≡ b ⊕ a
  plus_comm = R.plus_comm

  pub plus_zero : (a : C) → a ⊕ zero ≡ a
  plus_zero = R.plus_zero

  pub plus_neg : (a : C) → a ⊕ neg a ≡ zero
  plus_neg = R.plus_neg

  pub times_assoc : (a b c : C) → (a ⊗ b) ⊗ c ≡ a ⊗ (b ⊗ c)
  times_assoc = R.times_assoc

  pub times_comm : (a b : C) → a ⊗ b ≡ b ⊗ a
  times_comm = R.times_comm

  pub times_plus : (a b c : C) → a ⊗ (b ⊕ c) ≡ a ⊗ b ⊕ a ⊗ c
  times_plus = R.times_plus

  pub one_times : (a : C) → one ⊗ a ≡ a
  one_times = R.one_times

  pub zero_plus : (a : C) → zero ⊕ a ≡ a
  zero_plus a = plus_comm zero a ∙ plus_zero a

  pub neg_plus : (a : C) → neg a ⊕ a ≡ zero
  neg_plus a = plus_comm (neg a) a ∙ plus_neg a

  pub plus_left : (a b c : C) → a ⊕ (b ⊕ c) ≡ b ⊕ (a ⊕ c)
  plus_left a b c = sym (plus_assoc a b c) ∙ ap (λ x. x ⊕ c) (plus_comm a b) ∙ plus_assoc b a c

  pub times_left : (a b c : C) → a ⊗ (b ⊗ c) ≡ b ⊗ (a ⊗ c)
  times_left a b c = sym (times_assoc a b c) ∙ ap (λ x. x ⊗ c) (times_comm a b) ∙ times_assoc b a c

  pub times_one : (a : C) → a ⊗ one ≡ a
  times_one a = times_comm a one ∙ one_times a

  pub plus_times : (a b c : C) → (a ⊕ b) ⊗ c ≡ a ⊗ c ⊕ b ⊗ c
  plus_times a b c = simp (times_comm (a ⊕ b) c, times_comm a c, times_comm b c) (times_plus c a b)

  -- what is added and taken away again
  pub plus_neg_left : (a b : C) → a ⊕ (neg a ⊕ b) ≡ b
  plus_neg_left a b = sym (plus_assoc a (neg a) b) ∙ ap (λ x. x ⊕ b) (plus_neg a) ∙ zero_plus b

  pub neg_plus_left : (a b : C) → neg a ⊕ (a ⊕ b) ≡ b
  neg_plus_left a b = plus_left (neg a) a b ∙ plus_neg_left a b

  pub plus_neg_past : (a b : C) → a ⊕ (b ⊕ neg a) ≡ b
  plus_neg_past a b = ap (λ x. a ⊕ x) (plus_comm b (neg a)) ∙ plus_neg_left a b

  pub plus_neg_past_left : (a b c : C) → a ⊕ (b ⊕ (neg a ⊕ c)) ≡ b ⊕ c
  plus_neg_past_left a b c = ap (λ x. a ⊕ x) (plus_left b (neg a) c) ∙ plus_neg_left a (b ⊕ c)

  -- a summand that two equal sums share
  pub cancel : (a b c : C) → a ⊕ b ≡ a ⊕ c → b ≡ c
  cancel a b c e = sym (neg_plus_left a b) ∙ ap (λ x. neg a ⊕ x) e ∙ neg_plus_left a c

  -- what adds up to zero is the negation
  pub neg_is : (a b : C) → a ⊕ b ≡ zero → b ≡ neg a
  neg_is a b e = cancel a b (neg a) (e ∙ sym (plus_neg a))

  pub times_zero : (a : C) → a ⊗ zero ≡ zero
  times_zero a = cancel (a ⊗ zero) (a ⊗ zero) zero (sym (times_plus a zero zero) ∙ ap (λ x. a ⊗ x) (plus_zero zero) ∙ sym (plus_zero (a ⊗ zero)))

  pub zero_times : (a : C) → zero ⊗ a ≡ zero
  zero_times a = times_comm zero a ∙ times_zero a

  pub neg_zero : neg zero ≡ zero
  neg_zero = sym (neg_is zero zero (plus_zero zero))

  pub neg_neg : (a : C) → neg (neg a) ≡ a
  neg_neg a = sym (neg_is (neg a) a (neg_plus a))

  pub neg_sum : (a b : C) → neg (a ⊕ b) ≡ neg a ⊕ neg b
  neg_sum a b = sym (neg_is (a ⊕ b) (neg a ⊕ neg b) (simp (plus_assoc, plus_left b (neg a) (neg b), plus_neg, plus_zero)))

  pub times_neg : (a b : C) → a ⊗ neg b ≡ neg (a ⊗ b)
  times_neg a b = neg_is (a ⊗ b) (a ⊗ neg b) (sym (times_plus a b (neg b)) ∙ ap (λ x. a ⊗ x) (plus_neg b) ∙ times_zero a)

  pub neg_times : (a b : C) → neg a ⊗ b ≡ neg (a ⊗ b)
  neg_times a b = times_comm (neg a) b ∙ times_neg b a ∙ ap neg (times_comm b a)

  -- zero, one and negations taken out
  pub ruleset units = (plus_zero, zero_plus, times_zero, zero_times, times_one, one_times, neg_zero, neg_neg)

  -- a sum of products of letters, none of them in brackets
  pub ruleset open_out = (units, times_plus, plus_times, neg_sum, times_neg, neg_times)

  -- sums and products in one order
  pub ruleset sorted = (plus_assoc, plus_comm, plus_left, times_assoc, times_comm, times_left)

  -- the two sides of an equation that holds in every ring; a summand and its negation meet past one other at most
  pub ruleset ring = (open_out, sorted, plus_neg, neg_plus, plus_neg_left, neg_plus_left, plus_neg_past, plus_neg_past_left)
