-- The plain calculation: the value of each line, worked out from the accepted calls alone. Assumes nothing.
use Rattle.std.specs.Prelude.{ℕ, cond, Some, None, ◌==◌}
use Rattle.kinds.specs.Kind.{Ops}
use Rattle.book.specs.Calls.{Call, enter, sum, scale, begin, deal, gather, «open», show}
use Rattle.book.specs.Slates.{last_gather, why}
use Rattle.book.specs.declared.slate.Slate.{Slate}

-- the value of each line
abbrev pub Values : Type 0
Values = ℕ → ℕ

abbrev pub no_values : Values
no_values r = 0

abbrev pub with_value : Values → ℕ → ℕ → Values
with_value v line value r = cond (r == line) value (v r)

-- what an accepted call does to the values
abbrev pub reckon : Ops → Slate → Call → Values → Values
reckon o s (enter line house figure strip) v = with_value v line figure
reckon o s (sum d a b) v = with_value v d (o.sum (v a) (v b))
reckon o s (scale d a c) v = with_value v d (o.product c (v a))
reckon o s (begin d a b) v = v
reckon o s (deal seat strip) v = v
reckon o s (gather seat) v =
    elim s.hand [ Some h ↦ cond (last_gather s seat) (with_value v h.destination (o.product (v h.a) (v h.b))) v | None ↦ v ]
reckon o s («open» line room) v = v
reckon o s (show seat room) v = v

-- a refusal changes nothing
abbrev pub reckoned : Ops → Slate → Call → Values → Values
reckoned o s c v = elim (why o.size s c) [ Some refusal ↦ v | None ↦ reckon o s c v ]
