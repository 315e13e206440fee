-- What forms ask for. Assumes nothing.
use Rattle.std.specs.Prelude.{ℕ, cond, List, map, length, Some, None, Option, ◌==◌, slice_index_or}
use Rattle.reading.specs.Forms.{Piece, number, numbers, number_value, value_of}
use Rattle.reading.specs.Told.{Told, told, word_at, number_at as number_told, list_at as list_told}
use Rattle.reading.specs.declared.token.Token.{Token}
use Rattle.forms.specs.Lists.{numbers_in, list_value}
use Rattle.forms.specs.Words.{item_count}
use Rattle.forms.specs.declared.order.Order.{Order as Ordered}
use Rattle.forms.specs.declared.order.Order.TheVariants as code
use Rattle.forms.specs.declared.word.Word.{Word}
use Rattle.forms.specs.declared.word.Word.TheVariants.{Kind, Set, Enter, Sum, Scale, Begin, Deal, Gather, Open, Show}

-- the kind of the sheet's book, or one of the nine calls with the numbers handed in
pub data Order : Type 0 where
  kind : (which : ℕ) → Order
  set : (n k : ℕ) → Order
  enter : (line house figure : ℕ) (strip : List ℕ) → Order
  sum : (destination a b : ℕ) → Order
  scale : (destination a constant : ℕ) → Order
  begin : (destination a b : ℕ) → Order
  deal : (seat : ℕ) (strip : List ℕ) → Order
  gather : (seat : ℕ) → Order
  «open» : (line : ℕ) → Order
  show : (seat : ℕ) → Order

-- what the code's Order stands for
abbrev pub meant : Ordered → Order
meant (code.Kind which) = kind which
meant (code.Set n k) = set n k
meant (code.Enter line house figure strip) = enter line house figure (numbers_in strip)
meant (code.Sum d a b) = sum d a b
meant (code.Scale d a c) = scale d a c
meant (code.Begin d a b) = begin d a b
meant (code.Deal seat strip) = deal seat (numbers_in strip)
meant (code.Gather seat) = gather seat
meant (code.Open line) = «open» line
meant (code.Show seat) = show seat

abbrev pub order_meant : Option Ordered → Option Order
order_meant (Some o) = Some (meant o)
order_meant None = None

-- an item as a number's value or a list's values; a token that no line gives is neither
pub data Item : Type 0 where
  one : ℕ → Item
  many : List ℕ → Item
  neither : Item

abbrev pub one_if : Option ℕ → Item
one_if (Some v) = one v
one_if None = neither

abbrev pub many_if : Option (List ℕ) → Item
many_if (Some vs) = many vs
many_if None = neither

abbrev pub item_of : Told → Item
item_of (word_at bytes line column) = neither
item_of (number_told bytes line column) = one_if (number_value bytes)
item_of (list_told bytes line column) = many_if (list_value bytes)

abbrev pub items_of : List Token → List Item
items_of ts = map (λ t. item_of (told t)) ts

abbrev pub piece_item : Piece → Item
piece_item (number ds) = one (value_of ds)
piece_item (numbers ns) = many (map value_of ns)

-- ---- the word's items: numbers, and for enter and deal a list behind them

abbrev pub number_in : Item → Option ℕ
number_in (one v) = Some v
number_in (many vs) = None
number_in neither = None

abbrev pub list_in : Item → Option (List ℕ)
list_in (one v) = None
list_in (many vs) = Some vs
list_in neither = None

abbrev pub number_at : List Item → ℕ → Option ℕ
number_at items place = number_in (slice_index_or items place neither)

abbrev pub list_at : List Item → ℕ → Option (List ℕ)
list_at items place = list_in (slice_index_or items place neither)

abbrev pub with : {A : Type 0} → Option A → (A → Option Order) → Option Order
with (Some x) go = go x
with None go = None

abbrev pub asks_with : Word → List Item → Option Order
asks_with Kind is = with (number_at is 0) (λ which. Some (kind which))
asks_with Set is = with (number_at is 0) (λ n. with (number_at is 1) (λ k. Some (set n k)))
asks_with Enter is =
    with (number_at is 0) (λ line. with (number_at is 1) (λ house. with (number_at is 2) (λ figure. with (list_at is 3) (λ strip. Some (enter line house figure strip)))))
asks_with Sum is = with (number_at is 0) (λ d. with (number_at is 1) (λ a. with (number_at is 2) (λ b. Some (sum d a b))))
asks_with Scale is = with (number_at is 0) (λ d. with (number_at is 1) (λ a. with (number_at is 2) (λ c. Some (scale d a c))))
asks_with Begin is = with (number_at is 0) (λ d. with (number_at is 1) (λ a. with (number_at is 2) (λ b. Some (begin d a b))))
asks_with Deal is = with (number_at is 0) (λ seat. with (list_at is 1) (λ strip. Some (deal seat strip)))
asks_with Gather is = with (number_at is 0) (λ seat. Some (gather seat))
asks_with Open is = with (number_at is 0) (λ line. Some («open» line))
asks_with Show is = with (number_at is 0) (λ seat. Some (show seat))

-- what the word asks for with the items, where they are its own and no more
abbrev pub asks : Word → List Item → Option Order
asks w is = cond (length is == item_count w) (asks_with w is) None
