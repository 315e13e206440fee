-- The faults of a form, with the numbers that the rules give them. Assumes nothing.
use Rattle.std.specs.Prelude.{ℕ}
use Rattle.sharing.specs.Causes.{cause_number}
use Rattle.forms.specs.declared.fault.Layer.{Layer}
use Rattle.forms.specs.declared.fault.Layer.TheVariants.{Reader, Form, Book}
use Rattle.forms.specs.declared.fault.FormFault.{FormFault}
use Rattle.forms.specs.declared.fault.FormFault.TheVariants.{UnknownWord, WrongItems, WrongKind, Refused}

-- the layers of the form and of the book; the reader's is 1
abbrev pub own_layer : ℕ
own_layer = 2

abbrev pub book_layer : ℕ
book_layer = 3

-- the layers by their numbers
abbrev pub layer_number : Layer → ℕ
layer_number Reader = 1
layer_number Form = own_layer
layer_number Book = book_layer

abbrev pub form_layer : FormFault → ℕ
form_layer UnknownWord = own_layer
form_layer WrongItems = own_layer
form_layer WrongKind = own_layer
form_layer (Refused refusal) = book_layer

abbrev pub form_column : FormFault → ℕ
form_column UnknownWord = 2
form_column WrongItems = 1
form_column WrongKind = 1
form_column (Refused refusal) = 1

abbrev pub form_cause : FormFault → ℕ
form_cause UnknownWord = 23
form_cause WrongItems = 24
form_cause WrongKind = 25
form_cause (Refused refusal) = cause_number refusal
