use Rattle.std.proofs.Common.{◌≡◌, ◌∙◌, rules, arith}
use Rattle.sharing.specs.Rebuilding.{fitted}
use Rattle.sharing.proofs.Dividing.{fitted-zip}
use Rattle.sharing.proofs.rebuilding.attempt.Goals as goal

pub returns : goal.returns
returns g c =
    let o = g.K.Kind.ops in
    let fit : c.constant.result ≡ fitted o c.args.k c.args.seats.now c.args.shares.now =
    c.constant.ensures ∙ fitted-zip o c.args.k c.deref_mut.result.now c.args.seats.now c.args.shares.now (c.deref_mut.ensures.value ∙ c.paired.ensures) (omega arith) in
    search rules
