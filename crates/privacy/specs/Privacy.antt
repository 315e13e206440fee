-- A group of fewer than k seats learns nothing beyond the opened totals, over any list of calls. Assumes nothing.
use Rattle.std.specs.Prelude.{◌≡◌, ℕ, ◌-◌, ◌<◌, List, [], ◌∷◌, ◌++◌, length, take, replicate, None}
use Rattle.kinds.specs.Kind.{Ops, Lawful}
use Rattle.sharing.specs.Masks.{mask_of}
use Rattle.book.specs.Calls.{Call, enter, sum, scale, begin, deal, gather, «open», show}
use Rattle.book.specs.Slates.{fresh, why, why_set}
use Rattle.book.specs.States.{set_book}
use Rattle.book.specs.Values.{Values, no_values, reckoned}
use Rattle.book.specs.declared.slate.Slate.{Slate}
use Rattle.privacy.specs.Pairing.{Side, first, second, Item, strip_length, call_in, calls_in, Choice, AllOwn, paired}
use Rattle.privacy.specs.Runs.{slate_after, sights}
use Rattle.privacy.specs.Totals.{SeatsOf}

-- The call that a run makes, as far as the slate and the plain calculation go: they see no strip but its length.
abbrev pub plain_call : Side → Item → Call
plain_call side i = call_in side i (replicate (strip_length i) 0)

-- where a call is an accepted open, the line's value is equal in both runs
abbrev pub OpensLevel : Ops → Slate → Values → Values → Call → Type 0
OpensLevel o s v w (enter line house figure strip) = Unit {0}
OpensLevel o s v w (sum d a b) = Unit {0}
OpensLevel o s v w (scale d a c) = Unit {0}
OpensLevel o s v w (begin d a b) = Unit {0}
OpensLevel o s v w (deal seat strip) = Unit {0}
OpensLevel o s v w (gather seat) = Unit {0}
OpensLevel o s v w («open» line room) = why o.size s («open» line room) ≡ None → v line ≡ w line
OpensLevel o s v w (show seat room) = Unit {0}

-- At each accepted open of the two runs the line's value, by the plain calculation, is equal in both.
abbrev pub Level : Ops → Slate → Values → Values → List Item → Type 0
Level o s v w [] = Unit {0}
Level o s v w (i ∷ items) =
    OpensLevel o s v w (plain_call first i)
    × Level o (slate_after o s (plain_call first i)) (reckoned o s (plain_call first i) v) (reckoned o s (plain_call second i) w) items

-- the pairing from the choices of one run to those of the other: both books are as set(n, k) leaves an unset book
abbrev pub pairing : Ops → ℕ → ℕ → List ℕ → Side → List Item → List (List ℕ) → List (List ℕ)
pairing o n k group side items strips = paired o (mask_of o group (k - 1)) side (set_book n k) (set_book n k) items strips

-- One pairing of all choices of the first run with all of the second: each choice has exactly one partner, and with
-- paired strips the group sees the same in both runs, after every call.
pub record PairedOff (o : Ops) (n k : ℕ) (group : List ℕ) (items : List Item) : Type 0 where
  pub there : (strips : List (List ℕ)) → Choice o items strips → Choice o items (pairing o n k group first items strips)
  pub back : (strips : List (List ℕ)) → Choice o items strips → Choice o items (pairing o n k group second items strips)
  pub back_there : (strips : List (List ℕ)) → Choice o items strips → pairing o n k group second items (pairing o n k group first items strips) ≡ strips
  pub there_back : (strips : List (List ℕ)) → Choice o items strips → pairing o n k group first items (pairing o n k group second items strips) ≡ strips
  pub same_sights : (strips : List (List ℕ)) → Choice o items strips
      → sights o group (set_book n k) (calls_in first items strips) ≡ sights o group (set_book n k) (calls_in second items (pairing o n k group first items strips))

-- A group of fewer than k seats learns nothing more.
abbrev pub GroupLearnsNothing : Type 0
GroupLearnsNothing = (o : Ops) → Lawful o → (n k : ℕ) → why_set n k ≡ None → (group : List ℕ) → length group < k → SeatsOf n group
    → (items : List Item) → AllOwn o group items → Level o (fresh n k) no_values no_values items → PairedOff o n k group items

-- The pairing of a list of calls, cut after any call, is the pairing of the calls up to there: so a group that picks its
-- next call by what it has seen gains nothing.
abbrev pub OnePairing : Type 0
OnePairing = (o : Ops) (n k : ℕ) (group : List ℕ) (side : Side) (items more : List Item) (strips : List (List ℕ))
    → take (length items) (pairing o n k group side (items ++ more) strips) ≡ pairing o n k group side items (take (length items) strips)
