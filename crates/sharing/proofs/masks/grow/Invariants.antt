use Rattle.std.proofs.Common.{◌≡◌, ◌++◌, take, drop}
use Rattle.sharing.specs.Masks.{grown}
use Rattle.sharing.proofs.masks.grow.Given as goal

-- what is done, and what is left as it was
abbrev pub invariant-loop-code : goal.invariant-loop-code
invariant-loop-code g l =
    let o = g.K.Kind.ops in
    (take l.code-index l.strip ++ grown o l.r l.before (drop l.code-index l.initial.strip) ≡ grown o l.r o.unit l.initial.strip)
    × (drop l.code-index l.strip ≡ drop l.code-index l.initial.strip)
