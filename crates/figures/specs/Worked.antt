-- The worked figures of docs/RULES.md, all in one statement about the definitions that the contracts cite.
-- Assumes nothing.
use Rattle.std.specs.Prelude.{◌≡◌, ℕ, List, [], ◌∷◌, map, take, Some, None, Ok, Err, codes}
use Rattle.kinds.specs.Kinds.{byte_ops, small_ops, wide_ops}
use Rattle.sharing.specs.Causes.{cause_number}
use Rattle.sharing.specs.Rebuilding.{rebuilt}
use Rattle.sharing.specs.Shares.{seats_to, shares_at, weights_of}
use Rattle.sharing.specs.declared.refusal.Refusal.TheVariants.{Limits, NoFit, NoLine, NotBelow}
use Rattle.book.specs.Calls.{begin, enter, deal, gather, «open»}
use Rattle.book.specs.Secrets.{letter_held, opened, share_held}
use Rattle.book.specs.Slates.{fresh, why, why_set}
use Rattle.book.specs.States.{State, answer, set_book}
use Rattle.privacy.specs.Pairing.{Item, Side, alike, calls_in, deals, enters, first, second}
use Rattle.privacy.specs.Privacy.{pairing}
use Rattle.privacy.specs.Runs.{run}
use Rattle.tally.specs.Sheets.{sheet_text}

-- The example with three seats and threshold 2 in two runs: figures 4 and 10, and 2 and 20, of houses 1 and 2, and their
-- product. Seat 3 is the group, and deals along 11.
abbrev pub example : List Item
example =
    enters 0 1 4 2 1 ∷ enters 1 2 10 20 1 ∷ alike (begin 2 0 1) ∷ deals 1 1 ∷ deals 2 1 ∷ alike (deal 3 (11 ∷ [])) ∷
    alike (gather 1) ∷ alike (gather 2) ∷ alike (gather 3) ∷ []

-- the strips of the outside calls, in the order of the calls
abbrev pub outside : (a b c d : ℕ) → List (List ℕ)
outside a b c d = (a ∷ []) ∷ (b ∷ []) ∷ [] ∷ (c ∷ []) ∷ (d ∷ []) ∷ [] ∷ [] ∷ [] ∷ [] ∷ []

-- the book of a run after so many calls
abbrev pub after_calls : Side → List (List ℕ) → ℕ → State
after_calls side strips count = run small_ops (set_book 3 2) (take count (calls_in side example strips))

-- the letters to a seat from seats 1 to 3, and the shares of lines 0 and 1 at seat 3
abbrev pub letters_to : State → ℕ → List ℕ
letters_to t seat = map (letter_held t.secrets seat) (seats_to 3)

abbrev pub shares_of_three : State → List ℕ
shares_of_three t = map (share_held t.secrets 3) (0 ∷ 1 ∷ [])

-- the same as a sheet, with a line more that is refused
abbrev pub sheet : List ℕ
sheet = codes "(kind 1)\n(set 3 2)\n(enter 0 1 4 (5))\n(enter 1 2 10 (3))\n(begin 2 0 1)\n(deal 1 (6))\n(deal 2 (0))\n(deal 3 (11))\n(gather 1)\n(gather 2)\n(gather 3)\n(open 2)\n(open 3)\n"

pub record WorkedFigures : Type 0 where
  -- figure 4 along 5, counted by 31
  pub shares : shares_at small_ops 4 (5 ∷ []) (seats_to 3) ≡ 9 ∷ 14 ∷ 19 ∷ []
  pub weights_of_three : weights_of small_ops 3 ≡ 3 ∷ 28 ∷ 1 ∷ []
  pub weights_of_five : weights_of small_ops 5 ≡ 5 ∷ 21 ∷ 10 ∷ 26 ∷ 1 ∷ []
  -- the example: six calls up to the last deal, nine up to the last gather
  pub letters : letters_to (after_calls first (outside 5 3 6 0) 6) 1 ≡ 30 ∷ 7 ∷ 0 ∷ []
  pub product : opened 3 (after_calls first (outside 5 3 6 0) 9).secrets 2 ≡ 7 ∷ 5 ∷ 3 ∷ []
  pub total : answer small_ops (after_calls first (outside 5 3 6 0) 9) («open» 2 3) ≡ Ok 9
  -- the group of seat 3: what is paired, and what it sees in both runs
  pub paired : pairing small_ops 3 2 (3 ∷ []) first example (outside 5 3 6 0) ≡ outside 16 10 20 14
  pub first_shares : shares_of_three (after_calls first (outside 5 3 6 0) 6) ≡ 19 ∷ 19 ∷ []
  pub second_shares : shares_of_three (after_calls second (outside 16 10 20 14) 6) ≡ 19 ∷ 19 ∷ []
  pub first_letters : letters_to (after_calls first (outside 5 3 6 0) 6) 3 ≡ 11 ∷ 7 ∷ 22 ∷ []
  pub second_letters : letters_to (after_calls second (outside 16 10 20 14) 6) 3 ≡ 11 ∷ 7 ∷ 22 ∷ []
  pub second_product : opened 3 (after_calls second (outside 16 10 20 14) 9).secrets 2 ≡ 7 ∷ 5 ∷ 3 ∷ []
  pub written : sheet_text sheet ≡ codes "ok\nok\nok\nok\nok\nok\nok\nok\nok\nok\nok\nopen 2 9 7 5 3\nno 3 13 1 6\n"
  -- bytes
  pub byte_product : byte_ops.product 0x57 0x83 ≡ 0xc1
  pub byte_inverse : byte_ops.product 0x02 0x8d ≡ 0x01
  pub byte_shares : shares_at byte_ops 0x53 (0x57 ∷ []) (seats_to 3) ≡ 0x04 ∷ 0xfd ∷ 0xaa ∷ []
  -- remainders by 2,147,483,647
  pub wide_square : wide_ops.product 2147483646 2147483646 ≡ 1
  pub wide_reciprocal : wide_ops.reciprocal 2 0 ≡ 1073741824
  -- rebuilding with threshold 2
  pub rebuilds : rebuilt small_ops 2 (1 ∷ 3 ∷ []) (9 ∷ 19 ∷ []) ≡ Ok 4
  pub no_fit : rebuilt small_ops 2 (1 ∷ 2 ∷ 3 ∷ []) (9 ∷ 14 ∷ 18 ∷ []) ≡ Err NoFit
  pub no_fit_number : cause_number NoFit ≡ 19
  -- the limits: what stands at each bound, and what is refused one past it
  pub set_stands : (why_set 5 3 ≡ None) × (why_set 9 5 ≡ None)
  pub set_refused : (why_set 4 3 ≡ Some Limits) × (why_set 10 5 ≡ Some Limits) × (cause_number Limits ≡ 2)
  pub figure_bound : (why 31 (fresh 3 2) (enter 0 1 30 (5 ∷ [])) ≡ None) × (why 31 (fresh 3 2) (enter 0 1 31 (5 ∷ [])) ≡ Some NotBelow) × (cause_number NotBelow ≡ 8)
  pub line_bound : (why 31 (fresh 3 2) (enter 31 1 4 (5 ∷ [])) ≡ None) × (why 31 (fresh 3 2) (enter 32 1 4 (5 ∷ [])) ≡ Some NoLine) × (cause_number NoLine ≡ 4)
