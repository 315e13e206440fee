use Rattle.std.proofs.Common.{◌≡◌, ◌++◌, map, take, drop}
use Rattle.sharing.proofs.Dividing.{divided_at}
use Rattle.sharing.proofs.rebuilding.divide.Given as goal

-- what is done, and what is left as it was
abbrev pub invariant-loop-other : goal.invariant-loop-other
invariant-loop-other g l =
    let step = divided_at g.K.Kind.ops l.seat l.value in
    (take l.other-index l.pairs ++ map step (drop l.other-index l.initial.pairs) ≡ map step l.initial.pairs)
    × (drop l.other-index l.pairs ≡ drop l.other-index l.initial.pairs)
