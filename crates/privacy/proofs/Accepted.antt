-- What an accepted call tells of the slate: no cause of refusal holds. Assumes nothing.
use Rattle.std.proofs.Common.{◌≡◌, ℕ, ◌+◌, ◌<◌, ◌≤◌, Bool, true, false, not, ◌&&◌, ◌||◌, eqb, ltb, leb, ◌≢◌, List, length, take, Some, None, Option, refl, arith}
use Rattle.std.proofs.lemmas.Bool.{and_parts, or_parts, not-false, eqb-true, eqb-false, ltb-false, leb-false, false≢true}
use Rattle.sharing.specs.Rebuilding.{all_below}
use Rattle.sharing.specs.declared.refusal.Refusal.{Refusal}
use Rattle.sharing.specs.declared.refusal.Refusal.TheVariants.{NoLine, NotEmpty, NotFull, NoSeat, NotBelow, StripLength, StripCode, InHand, NoneInHand, Dealt, NotAllDealt, Gathered, ListLength}
use Rattle.book.specs.Calls.{enter, sum, scale, begin, deal, gather, «open»}
use Rattle.book.specs.Slates.{line_count, state_of, is_empty, is_awaited, is_full, flag, all_set, no_seat, cause, why_lines, why_strip, why}
use Rattle.book.specs.declared.slate.Hand.{Hand}
use Rattle.book.specs.declared.slate.Line.{Line}
use Rattle.book.specs.declared.slate.Line.TheVariants.{Empty, Awaited, Full}
use Rattle.book.specs.declared.slate.Slate.{Slate}

pub some_not_none : (r : Refusal) → Some r ≡ None → ⊥
some_not_none r e = let z : ◌≡◌ {A = ℕ} 0 1 = cc in omega arith

-- a cause does not hold, nor do those after it
pub no_cause : (b : Bool) (r : Refusal) (rest : Option Refusal) → cause b r rest ≡ None → (b ≡ false) × (rest ≡ None)
no_cause true r rest e = absurd (some_not_none r e)
no_cause false r rest e = (refl, e)

-- ---- tests of a line's state and of a seat

pub empty_is : (l : Line) → is_empty l ≡ true → l ≡ Empty
empty_is Empty e = refl
empty_is Awaited e = absurd (false≢true e)
empty_is Full e = absurd (false≢true e)

pub awaited_is : (l : Line) → is_awaited l ≡ true → l ≡ Awaited
awaited_is Empty e = absurd (false≢true e)
awaited_is Awaited e = refl
awaited_is Full e = absurd (false≢true e)

pub full_is : (l : Line) → is_full l ≡ true → l ≡ Full
full_is Empty e = absurd (false≢true e)
full_is Awaited e = absurd (false≢true e)
full_is Full e = refl

-- the seat is one of 1 to n
pub a_seat : (s : Slate) (seat : ℕ) → no_seat s seat ≡ false → (1 ≤ seat) × (seat ≤ s.n)
a_seat s seat e =
    let (some, small) = or_parts (eqb seat 0) (ltb s.n seat) e in
    let far : seat ≢ 0 = eqb-false seat 0 some in
    (omega arith, ltb-false s.n seat small)

-- ---- the parts of an accepted call

pub record StripFits (s : Slate) (size : ℕ) (strip : List ℕ) : Type 0 where
  pub long : length strip + 1 ≡ s.k
  pub below : all_below size strip ≡ true

strip_fits : (s : Slate) (size : ℕ) (strip : List ℕ) → why_strip s size strip ≡ None → StripFits s size strip
strip_fits s size strip e =
    let rest = no_cause (not (eqb (length strip + 1) s.k)) StripLength (cause (not (all_below size strip)) StripCode None) e in
    record {
      long = eqb-true (length strip + 1) s.k (not-false _ rest.0);
      below = not-false _ (no_cause (not (all_below size strip)) StripCode None rest.1).0;
    }

-- a destination and two lines to be read
pub record LinesFit (s : Slate) (d a b : ℕ) (rest : Option Refusal) : Type 0 where
  pub within : d < line_count
  pub empty : state_of s d ≡ Empty
  pub a_full : state_of s a ≡ Full
  pub b_full : state_of s b ≡ Full
  pub then : rest ≡ None

lines_fit : (s : Slate) (d a b : ℕ) (rest : Option Refusal) → why_lines s d a b rest ≡ None → LinesFit s d a b rest
lines_fit s d a b rest e =
    let full : Bool = is_full (state_of s a) && is_full (state_of s b) in
    let third : Option Refusal = cause (not full) NotFull rest in
    let second : Option Refusal = cause (not (is_empty (state_of s d))) NotEmpty third in
    let p = no_cause (leb line_count d || (leb line_count a || leb line_count b)) NoLine second e in
    let q = no_cause (not (is_empty (state_of s d))) NotEmpty third p.1 in
    let r = no_cause (not full) NotFull rest q.1 in
    let both = and_parts (is_full (state_of s a)) (is_full (state_of s b)) (not-false full r.0) in
    record {
      within = leb-false line_count d (or_parts (leb line_count d) (leb line_count a || leb line_count b) p.0).0;
      empty = empty_is (state_of s d) (not-false _ q.0);
      a_full = full_is (state_of s a) both.0;
      b_full = full_is (state_of s b) both.1;
      then = r.1;
    }

-- ---- each accepted call

pub record Enters (size : ℕ) (s : Slate) (line house figure : ℕ) (strip : List ℕ) : Type 0 where
  pub within : line < line_count
  pub empty : state_of s line ≡ Empty
  pub house_low : 1 ≤ house
  pub house_high : house ≤ s.n
  pub below : figure < size
  pub strip_fits : StripFits s size strip

pub accepted_enter : (size : ℕ) (s : Slate) (line house figure : ℕ) (strip : List ℕ) → why size s (enter line house figure strip) ≡ None
    → Enters size s line house figure strip
accepted_enter size s line house figure strip e =
    let fourth : Option Refusal = cause (leb size figure) NotBelow (why_strip s size strip) in
    let third : Option Refusal = cause (no_seat s house) NoSeat fourth in
    let second : Option Refusal = cause (not (is_empty (state_of s line))) NotEmpty third in
    let p = no_cause (leb line_count line) NoLine second e in
    let q = no_cause (not (is_empty (state_of s line))) NotEmpty third p.1 in
    let r = no_cause (no_seat s house) NoSeat fourth q.1 in
    let t = no_cause (leb size figure) NotBelow (why_strip s size strip) r.1 in
    let seat = a_seat s house r.0 in
    record {
      within = leb-false line_count line p.0;
      empty = empty_is (state_of s line) (not-false _ q.0);
      house_low = seat.0;
      house_high = seat.1;
      below = leb-false size figure t.0;
      strip_fits = strip_fits s size strip t.1;
    }

pub accepted_sum : (size : ℕ) (s : Slate) (d a b : ℕ) → why size s (sum d a b) ≡ None → LinesFit s d a b None
accepted_sum size s d a b e = lines_fit s d a b None e

pub accepted_scale : (size : ℕ) (s : Slate) (d a c : ℕ) → why size s (scale d a c) ≡ None → LinesFit s d a a (cause (leb size c) NotBelow None)
accepted_scale size s d a c e = lines_fit s d a a (cause (leb size c) NotBelow None) e

-- no product is in hand
pub record Begins (s : Slate) (d a b : ℕ) : Type 0 where
  pub none : s.hand ≡ None
  pub lines : LinesFit s d a b None

not_in_hand : (hand : Option Hand) (rest : Option Refusal) → ◌≡◌ {A = Option Refusal} (elim hand [ Some h ↦ Some InHand | None ↦ rest ]) None → (hand ≡ None) × (rest ≡ None)
not_in_hand (Some h) rest e = absurd (some_not_none InHand e)
not_in_hand None rest e = (refl, e)

pub accepted_begin : (size : ℕ) (s : Slate) (d a b : ℕ) → why size s (begin d a b) ≡ None → Begins s d a b
accepted_begin size s d a b e =
    let p = not_in_hand s.hand (why_lines s d a b None) e in
    record { none = p.0; lines = lines_fit s d a b None p.1 }

in_hand : (hand : Option Hand) (rest : Option Refusal) → ◌≡◌ {A = Option Refusal} (elim hand [ Some h ↦ rest | None ↦ Some NoneInHand ]) None → (h : Hand) × (hand ≡ Some h) × (rest ≡ None)
in_hand (Some h) rest e = (h, refl, e)
in_hand None rest e = absurd (some_not_none NoneInHand e)

-- a product is in hand, and the seat has not dealt
pub record Deals (size : ℕ) (s : Slate) (seat : ℕ) (strip : List ℕ) : Type 0 where
  pub hand : Hand
  pub in_hand : s.hand ≡ Some hand
  pub low : 1 ≤ seat
  pub high : seat ≤ s.n
  pub fresh : flag s.dealt seat ≡ false
  pub strip_fits : StripFits s size strip

pub accepted_deal : (size : ℕ) (s : Slate) (seat : ℕ) (strip : List ℕ) → why size s (deal seat strip) ≡ None → Deals size s seat strip
accepted_deal size s seat strip e =
    let second : Option Refusal = cause (flag s.dealt seat) Dealt (why_strip s size strip) in
    let p = in_hand s.hand (cause (no_seat s seat) NoSeat second) e in
    let q = no_cause (no_seat s seat) NoSeat second p.2 in
    let r = no_cause (flag s.dealt seat) Dealt (why_strip s size strip) q.1 in
    let range = a_seat s seat q.0 in
    record { hand = p.0; in_hand = p.1; low = range.0; high = range.1; fresh = r.0; strip_fits = strip_fits s size strip r.1 }

-- a product is in hand, each seat has dealt, and this seat has not gathered
pub record Gathers (s : Slate) (seat : ℕ) : Type 0 where
  pub hand : Hand
  pub in_hand : s.hand ≡ Some hand
  pub low : 1 ≤ seat
  pub high : seat ≤ s.n
  pub all_dealt : all_set (take s.n s.dealt) ≡ true
  pub fresh : flag s.gathered seat ≡ false

pub accepted_gather : (size : ℕ) (s : Slate) (seat : ℕ) → why size s (gather seat) ≡ None → Gathers s seat
accepted_gather size s seat e =
    let third : Option Refusal = cause (flag s.gathered seat) Gathered None in
    let second : Option Refusal = cause (not (all_set (take s.n s.dealt))) NotAllDealt third in
    let p = in_hand s.hand (cause (no_seat s seat) NoSeat second) e in
    let q = no_cause (no_seat s seat) NoSeat second p.2 in
    let r = no_cause (not (all_set (take s.n s.dealt))) NotAllDealt third q.1 in
    let t = no_cause (flag s.gathered seat) Gathered None r.1 in
    let range = a_seat s seat q.0 in
    record { hand = p.0; in_hand = p.1; low = range.0; high = range.1; all_dealt = not-false _ r.0; fresh = t.0 }

pub accepted_open : (size : ℕ) (s : Slate) (line room : ℕ) → why size s («open» line room) ≡ None → state_of s line ≡ Full
accepted_open size s line room e =
    let third : Option Refusal = cause (not (eqb room s.n)) ListLength None in
    let p = no_cause (leb line_count line) NoLine (cause (not (is_full (state_of s line))) NotFull third) e in
    full_is (state_of s line) (not-false _ (no_cause (not (is_full (state_of s line))) NotFull third p.1).0)
