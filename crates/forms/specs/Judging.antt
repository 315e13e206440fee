-- The judging of a form: an unknown word comes before wrong items. Assumes nothing.
use Rattle.std.specs.Prelude.{◌≡◌, ℕ, List, [], ◌∷◌, map, Some, None, Ok, Err, Result}
use Rattle.reading.specs.Forms.{Form, Proper}
use Rattle.reading.specs.Told.{Told, word_at, number_at, list_at, tokens_of}
use Rattle.forms.specs.Orders.{Order, Item, meant, item_of, piece_item, asks}
use Rattle.forms.specs.Words.{word_of}
use Rattle.forms.specs.declared.fault.FormFault.{FormFault}
use Rattle.forms.specs.declared.fault.FormFault.TheVariants.{UnknownWord, WrongItems}
use Rattle.forms.specs.declared.order.Order.{Order as Ordered}

-- the judgement of a word's bytes and of the items behind it
abbrev pub judged_as : List ℕ → List Item → Result Order FormFault
judged_as w is =
    elim (word_of w) [ Some word ↦ elim (asks word is) [ Some order ↦ Ok order | None ↦ Err WrongItems ] | None ↦ Err UnknownWord ]

-- of a form
abbrev pub judged_form : Form → Result Order FormFault
judged_form f = judged_as f.word (map piece_item f.items)

-- of any tokens; tokens that do not begin with a word have none that is known
abbrev pub judged : List Told → Result Order FormFault
judged [] = Err UnknownWord
judged (word_at bytes line column ∷ ts) = judged_as bytes (map item_of ts)
judged (number_at bytes line column ∷ ts) = Err UnknownWord
judged (list_at bytes line column ∷ ts) = Err UnknownWord

abbrev pub judged_meant : Result Ordered FormFault → Result Order FormFault
judged_meant (Ok order) = Ok (meant order)
judged_meant (Err fault) = Err fault

-- the tokens of a proper form's line are judged as the form
abbrev pub JudgesForms : Type 0
JudgesForms = (f : Form) (line : ℕ) → Proper f → judged (tokens_of line f) ≡ judged_form f
