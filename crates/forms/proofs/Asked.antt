-- What a known word asks for with its items, as it is judged. Assumes nothing.
use Rattle.std.proofs.Common.{◌≡◌, List, [], ◌∷◌, map, Some, None, Ok, Err, Option, Result, sym, refl, ap, ◌∙◌}
use Rattle.std.specs.Option.{ok_or}
use Rattle.reading.specs.Told.{told}
use Rattle.reading.specs.declared.token.Part.{Part}
use Rattle.reading.specs.declared.token.Token.{Token}
use Rattle.reading.specs.declared.token.Token.TheVariants.{Word as Worded}
use Rattle.forms.specs.Judging.{judged, judged_meant}
use Rattle.forms.specs.Orders.{Order, item_of, items_of, asks, order_meant}
use Rattle.forms.specs.Words.{word_of}
use Rattle.forms.specs.declared.fault.FormFault.{FormFault}
use Rattle.forms.specs.declared.fault.FormFault.TheVariants.{UnknownWord, WrongItems}
use Rattle.forms.specs.declared.order.Order.{Order as Ordered}
use Rattle.forms.specs.declared.word.Word.{Word}

told_items : (ts : List Token) → map item_of (map told ts) ≡ items_of ts
told_items [] = refl
told_items (t ∷ ts) = ap (λ l. item_of (told t) ∷ l) (told_items ts)

answered : Option Order → Result Order FormFault
answered o = elim o [ Some order ↦ Ok order | None ↦ Err WrongItems ]

answered_is : (o : Option Ordered) → judged_meant (ok_or o WrongItems) ≡ answered (order_meant o)
unfolding answered
answered_is (Some order) = refl
answered_is None = refl

known : (w : Word) (o : Option Word) → ◌≡◌ {A = Result Word FormFault} (Ok w) (ok_or o UnknownWord) → Some w ≡ o
known w (Some v) e = cc
known w None e = cc

pub asked : (ts rest : List Token) (p : Part) (w : Word) (o : Option Ordered) → ts ≡ Worded p ∷ rest → Ok w ≡ ok_or (word_of p.bytes.now) UnknownWord → order_meant o ≡ asks w (items_of rest) → judged_meant (ok_or o WrongItems) ≡ judged (map told ts)
unfolding answered
asked ts rest p w o is word_is asks_is =
    answered_is o
    ∙ ap answered (asks_is ∙ ap (asks w) (sym (told_items rest)))
    ∙ ap (λ k. elim k [ Some word ↦ answered (asks word (map item_of (map told rest))) | None ↦ Err UnknownWord ]) (known w (word_of p.bytes.now) word_is)
    ∙ ap (λ l. judged (map told l)) (sym is)
