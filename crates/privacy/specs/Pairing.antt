-- Two runs that make the same calls, and the pairing of the strips that the group does not know. Assumes nothing.
use Rattle.std.specs.Prelude.{◌≡◌, ℕ, ◌<◌, true, false, List, [], ◌∷◌, length, Some, None}
use Rattle.kinds.specs.Kind.{Ops, difference}
use Rattle.sharing.specs.Masks.{shifted}
use Rattle.sharing.specs.Rebuilding.{all_below, holds}
use Rattle.book.specs.Calls.{Call, enter, sum, scale, begin, deal, gather, «open», show}
use Rattle.book.specs.Secrets.{dealt_product}
use Rattle.book.specs.Slates.{why}
use Rattle.book.specs.States.{State, after}

-- the two runs
pub data Side : Type 0 where
  first : Side
  second : Side

abbrev pub other : Side → Side
other first = second
other second = first

-- A call of both runs. It is alike in both; or an outside house enters, a figure of its own in each run; or an outside
-- seat deals. Of an outside call's strip only the length is fixed.
pub data Item : Type 0 where
  alike : Call → Item
  enters : (line house in_first in_second strip_length : ℕ) → Item
  deals : (seat strip_length : ℕ) → Item

-- how long the strip is that an item leaves to the choice
abbrev pub strip_length : Item → ℕ
strip_length (alike c) = 0
strip_length (enters line house f g m) = m
strip_length (deals seat m) = m

abbrev pub figure_in : Side → ℕ → ℕ → ℕ
figure_in first f g = f
figure_in second f g = g

-- the call that a run makes, along a strip
abbrev pub call_in : Side → Item → List ℕ → Call
call_in side (alike c) strip = c
call_in side (enters line house f g m) strip = enter line house (figure_in side f g) strip
call_in side (deals seat m) strip = deal seat strip

-- the calls of a run
abbrev pub calls_in : Side → List Item → List (List ℕ) → List Call
calls_in side [] strips = []
calls_in side (i ∷ items) [] = []
calls_in side (i ∷ items) (strip ∷ strips) = call_in side i strip ∷ calls_in side items strips

-- A choice, the randomness that the group does not know: the outside strips of a run in the order of the calls, refused calls' too, each as long as its call has it,
-- of codes below the size. A call that is alike in both runs leaves no choice: its place holds the empty strip.
abbrev pub Choice : Ops → List Item → List (List ℕ) → Type 0
Choice o [] [] = Unit {0}
Choice o [] (strip ∷ strips) = ⊥
Choice o (i ∷ items) [] = ⊥
Choice o (i ∷ items) (strip ∷ strips) = (length strip ≡ strip_length i) × (all_below o.size strip ≡ true) × Choice o items strips

-- The group's own figures and strips are alike in both runs and may be anything. Figures of houses outside the group
-- are codes below the size.
abbrev pub Own : Ops → List ℕ → Item → Type 0
Own o group (alike (enter line house figure strip)) = holds house group ≡ true
Own o group (alike (sum d a b)) = Unit {0}
Own o group (alike (scale d a c)) = Unit {0}
Own o group (alike (begin d a b)) = Unit {0}
Own o group (alike (deal seat strip)) = holds seat group ≡ true
Own o group (alike (gather seat)) = Unit {0}
Own o group (alike («open» line room)) = Unit {0}
Own o group (alike (show seat room)) = Unit {0}
Own o group (enters line house f g m) = (holds house group ≡ false) × (f < o.size) × (g < o.size)
Own o group (deals seat m) = holds seat group ≡ false

abbrev pub AllOwn : Ops → List ℕ → List Item → Type 0
AllOwn o group [] = Unit {0}
AllOwn o group (i ∷ items) = Own o group i × AllOwn o group items

-- ---- the pairing: it goes by both books, and by the mask of the group

-- what the two runs share along the strip differs by this much
abbrev pub gap_between : Ops → Side → State → State → Item → ℕ
gap_between o side t u (alike c) = 0
gap_between o side t u (enters line house f g m) = difference o (figure_in (other side) f g) (figure_in side f g)
gap_between o side t u (deals seat m) =
    elim t.slate.hand [ Some h ↦ difference o (dealt_product o u.secrets h seat) (dealt_product o t.secrets h seat) | None ↦ 0 ]

-- The strip of the other run: an accepted call's is moved by a multiple of the mask, so that no share of the group
-- changes; a refused call's is the same.
abbrev pub paired_strip : Ops → List ℕ → Side → State → State → Item → List ℕ → List ℕ
paired_strip o mask side t u (alike c) strip = strip
paired_strip o mask side t u (enters line house f g m) strip =
    elim (why o.size t.slate (call_in side (enters line house f g m) strip)) [
      | Some refusal ↦ strip
      | None ↦ shifted o (gap_between o side t u (enters line house f g m)) mask strip
    ]
paired_strip o mask side t u (deals seat m) strip =
    elim (why o.size t.slate (call_in side (deals seat m) strip)) [
      | Some refusal ↦ strip
      | None ↦ shifted o (gap_between o side t u (deals seat m)) mask strip
    ]

-- The choice of the other run that is paired with a choice of this run. t is this run's book, and u the other's.
abbrev pub paired : Ops → List ℕ → Side → State → State → List Item → List (List ℕ) → List (List ℕ)
paired o mask side t u [] strips = []
paired o mask side t u (i ∷ items) [] = []
paired o mask side t u (i ∷ items) (strip ∷ strips) =
    let there : List ℕ = paired_strip o mask side t u i strip in
    there ∷ paired o mask side (after o t (call_in side i strip)) (after o u (call_in (other side) i there)) items strips
