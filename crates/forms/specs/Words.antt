-- The ten words of a sheet. Assumes nothing.
use Rattle.std.specs.Prelude.{ℕ, cond, List, Some, None, codes, Option}
use Rattle.std.specs.Str.{bytes_eq}
use Rattle.forms.specs.declared.word.Word.{Word}
use Rattle.forms.specs.declared.word.Word.TheVariants.{Kind, Set, Enter, Sum, Scale, Begin, Deal, Gather, Open, Show}

abbrev pub early_word : List ℕ → Option Word
early_word w =
    cond (bytes_eq w (codes "kind")) (Some Kind)
    (cond (bytes_eq w (codes "set")) (Some Set)
    (cond (bytes_eq w (codes "enter")) (Some Enter)
    (cond (bytes_eq w (codes "sum")) (Some Sum)
    (cond (bytes_eq w (codes "scale")) (Some Scale) None))))

abbrev pub late_word : List ℕ → Option Word
late_word w =
    cond (bytes_eq w (codes "begin")) (Some Begin)
    (cond (bytes_eq w (codes "deal")) (Some Deal)
    (cond (bytes_eq w (codes "gather")) (Some Gather)
    (cond (bytes_eq w (codes "open")) (Some Open)
    (cond (bytes_eq w (codes "show")) (Some Show) None))))

-- the word that the bytes are
abbrev pub word_of : List ℕ → Option Word
word_of w = elim (early_word w) [ Some word ↦ Some word | None ↦ late_word w ]

-- how many items stand behind the word
abbrev pub item_count : Word → ℕ
item_count Kind = 1
item_count Set = 2
item_count Enter = 4
item_count Sum = 3
item_count Scale = 3
item_count Begin = 3
item_count Deal = 2
item_count Gather = 1
item_count Open = 1
item_count Show = 1
