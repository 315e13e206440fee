use Rattle.std.proofs.Common.{◌∙◌, rules}
use Rattle.sharing.proofs.Scans.{list_any-holds}
use Rattle.sharing.proofs.rebuilding.is_apart.Goals as goal

pub returns-then-contains : goal.returns-then-contains
returns-then-contains c =
    let e = c.contains-then-contains.ensures.value ∙ list_any-holds c.args.seat c.args.later.now in
    search rules
