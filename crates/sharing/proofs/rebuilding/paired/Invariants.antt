use Rattle.std.proofs.Common.{◌≡◌, ◌++◌, zip}
use Rattle.std.specs.Iterator.Adapters.{zip_first, zip_second}
use Rattle.std.specs.Slice.Iter.{iter_rest}
use Rattle.sharing.proofs.rebuilding.paired.Given as goal

-- the pairs that are taken, and those that are left
abbrev pub invariant-loop-seat : goal.invariant-loop-seat
invariant-loop-seat l = l.pairs.items ++ zip (iter_rest (zip_first l.seat-iterator)) (iter_rest (zip_second l.seat-iterator)) ≡ zip l.seats l.shares
