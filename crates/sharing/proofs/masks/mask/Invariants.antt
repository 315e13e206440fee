use Rattle.std.proofs.Common.{◌≡◌, drop}
use Rattle.sharing.specs.Masks.{masked}
use Rattle.sharing.proofs.masks.mask.Given as goal

-- the seats that are left give the mask
abbrev pub invariant-loop-seat : goal.invariant-loop-seat
invariant-loop-seat g l =
    let o = g.K.Kind.ops in
    masked o (drop l.seat-index l.group) l.strip ≡ masked o l.group l.initial.strip
