-- Paired strips are alike as far as a refusal sees them, so both runs are refused for the same cause or not at all.
-- Assumes nothing.
use Rattle.std.proofs.Common.{◌≡◌, ℕ, suc, ◌+◌, ◌<◌, Bool, true, not, eqb, leb, List, [], ◌∷◌, length, Some, None, Option, sym, refl, ap, ◌∙◌, ap₂, arith}
use Rattle.std.proofs.lemmas.Bool.{lt-leb}
use Rattle.kinds.specs.Kind.{Ops, Lawful}
use Rattle.sharing.specs.Masks.{shifted}
use Rattle.sharing.specs.Rebuilding.{all_below}
use Rattle.sharing.specs.declared.refusal.Refusal.{Refusal}
use Rattle.sharing.specs.declared.refusal.Refusal.TheVariants.{NoLine, NotEmpty, NoSeat, NotBelow, StripLength, StripCode, NoneInHand, Dealt}
use Rattle.sharing.proofs.Crossing.{shifted_below}
use Rattle.book.specs.Calls.{enter, deal}
use Rattle.book.specs.Slates.{line_count, state_of, is_empty, flag, no_seat, cause, why_strip, why}
use Rattle.book.specs.declared.secrets.Secrets.{Secrets}
use Rattle.book.specs.declared.slate.Hand.{Hand}
use Rattle.book.specs.declared.slate.Slate.{Slate}
use Rattle.privacy.specs.Pairing.{Side, first, second, other, Item, alike, enters, deals, figure_in, call_in, Own, gap_between, paired_strip}
use Rattle.privacy.proofs.Accepted.{accepted_enter, accepted_deal}
use Rattle.privacy.proofs.Links.{Fit}
use Rattle.privacy.proofs.Steps.{book}

-- each side's figure is below the size
pub figure_below : (size : ℕ) (side : Side) (f g : ℕ) → f < size → g < size → figure_in side f g < size
figure_below size first f g hf hg = hf
figure_below size second f g hf hg = hg

-- a moved strip is as long as the strip
length_shifted : (o : Ops) (by : ℕ) (mask strip : List ℕ) → length strip ≡ length mask → length (shifted o by mask strip) ≡ length strip
length_shifted o by mask [] e = refl
length_shifted o by [] (c ∷ strip) e = absurd (omega arith)
length_shifted o by (d ∷ mask) (c ∷ strip) e = ap suc (length_shifted o by mask strip (omega arith))

-- what a refusal sees of a strip
abbrev Like : ℕ → List ℕ → List ℕ → Type 0
Like size p q = (length q ≡ length p) × (all_below size q ≡ true)

strip_same : (size : ℕ) (s : Slate) (p q : List ℕ) → all_below size p ≡ true → Like size p q → why_strip s size p ≡ why_strip s size q
strip_same size s p q below (long, below') =
    ap₂ (λ (l : ℕ) (b : Bool). cause (not (eqb (l + 1) s.k)) StripLength (cause (not b) StripCode None)) (sym long) (below ∙ sym below')

enter_same : (size : ℕ) (s : Slate) (line house f g : ℕ) (p q : List ℕ) → f < size → g < size → all_below size p ≡ true → Like size p q
    → why size s (enter line house f p) ≡ why size s (enter line house g q)
enter_same size s line house f g p q hf hg below like =
    ap₂
    (λ (b : Bool) (rest : Option Refusal). cause (leb line_count line) NoLine (cause (not (is_empty (state_of s line))) NotEmpty (cause (no_seat s house) NoSeat (cause b NotBelow rest))))
    (lt-leb size f hf ∙ sym (lt-leb size g hg)) (strip_same size s p q below like)

deal_same : (size : ℕ) (s : Slate) (seat : ℕ) (p q : List ℕ) → all_below size p ≡ true → Like size p q → why size s (deal seat p) ≡ why size s (deal seat q)
deal_same size s seat p q below like = go s.hand
  where
    go : (hand : Option Hand) → ◌≡◌ {A = Option Refusal}
        (elim hand [ Some h ↦ cause (no_seat s seat) NoSeat (cause (flag s.dealt seat) Dealt (why_strip s size p)) | None ↦ Some NoneInHand ])
        (elim hand [ Some h ↦ cause (no_seat s seat) NoSeat (cause (flag s.dealt seat) Dealt (why_strip s size q)) | None ↦ Some NoneInHand ])
    go (Some h) = ap (λ (rest : Option Refusal). cause (no_seat s seat) NoSeat (cause (flag s.dealt seat) Dealt rest)) (strip_same size s p q below like)
    go None = refl

-- a strip by whether the call is refused
either_strip : (P : List ℕ → Type 0) (a : Option Refusal) (p q : List ℕ) → P p → (a ≡ None → P q) → P (elim a [ Some refusal ↦ p | None ↦ q ])
either_strip P (Some r) p q hp hq = hp
either_strip P None p q hp hq = hq refl

module _ (o : Ops) (L : Lawful o) (n k : ℕ) (mask : List ℕ) (mask_long : length mask + 1 ≡ k) (group : List ℕ) (side : Side) where
  -- both runs are refused for the same cause, or neither is
  pub same_why : (s : Slate) (x y : Secrets) → s.k ≡ k → (i : Item) → Own o group i → (strip : List ℕ) → Fit o L n k mask i strip
      → why o.size s (call_in side i strip) ≡ why o.size s (call_in (other side) i (paired_strip o mask side (book s x) (book s y) i strip))
  same_why s x y k_is (alike c) own strip fit = refl
  same_why s x y k_is (enters line house f g m) own strip fit =
      enter_same o.size s line house (figure_in side f g) (figure_in (other side) f g) strip _ (figure_below o.size side f g own.1 own.2)
      (figure_below o.size (other side) f g own.1 own.2) fit.below
      (either_strip (Like o.size strip) (why o.size s (enter line house (figure_in side f g) strip)) strip
      (shifted o (gap_between o side (book s x) (book s y) (enters line house f g m)) mask strip) (refl, fit.below)
      (λ e. let fits = accepted_enter o.size s line house (figure_in side f g) strip e in
      (length_shifted o _ mask strip (omega (arith, fits.strip_fits.long)), shifted_below o L _ mask strip)))
  same_why s x y k_is (deals seat m) own strip fit =
      deal_same o.size s seat strip _ fit.below
      (either_strip (Like o.size strip) (why o.size s (deal seat strip)) strip
      (shifted o (gap_between o side (book s x) (book s y) (deals seat m)) mask strip) (refl, fit.below)
      (λ e. let fits = accepted_deal o.size s seat strip e in
      (length_shifted o _ mask strip (omega (arith, fits.strip_fits.long)), shifted_below o L _ mask strip)))
