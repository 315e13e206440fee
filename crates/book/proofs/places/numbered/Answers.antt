use Rattle.std.proofs.Common.{rules}
use Rattle.book.proofs.Filling.{numbered_by}
use Rattle.book.proofs.places.numbered.Goals as goal

pub returns : goal.returns
returns g c value is_value =
    numbered_by _ _ value c.args.first g.row.N (λ i y q lt k. search (rules, is_value)) _ c.from_fn.ensures.items
