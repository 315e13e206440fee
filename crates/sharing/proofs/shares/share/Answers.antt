use Rattle.std.proofs.Common.{◌≡◌, reverse, fold, ◌∙◌, rules}
use Rattle.std.proofs.iter.runs.Made.{chains}
use Rattle.sharing.proofs.Weighing.{fold-value_at}
use Rattle.sharing.proofs.shares.share.Goals as goal

pub returns : goal.returns
returns g c =
    let o = g.K.Kind.ops in
    let x = c.point-x.result in
    let folded : c.fold-tail.result ≡ fold (λ tail code. o.sum code (o.product x tail)) 0 (reverse c.args.strip.now) = search (rules, chains) in
    let tail = folded ∙ fold-value_at o c.args.strip.now x in
    cc
