use Rattle.std.proofs.Common.{◌+◌, refl, ◌∙◌, rules, arith}
use Rattle.std.proofs.lemmas.Iterator.{YieldsList-from_range}
use Rattle.sharing.specs.Shares.{weight_part, seats_to}
use Rattle.sharing.proofs.Folds.{fold_by}
use Rattle.sharing.proofs.Weighing.{fold-weight_among}
use Rattle.sharing.proofs.shares.weight.Goals as goal

pub returns : goal.returns
returns g c =
    let o = g.K.Kind.ops in
    let seats = YieldsList-from_range 1 (c.args.n + 1) c.args.n refl (omega arith) in
    fold_by (λ weight j. o.product weight (weight_part o c.args.seat j)) _ (λ a x b f' k. search rules) seats c.unit.result c.fold.result c.fold.ensures.ran
    ∙ rw c.unit.ensures (fold-weight_among o g.met.K.Kind.lawful (seats_to c.args.n) c.args.seat)
