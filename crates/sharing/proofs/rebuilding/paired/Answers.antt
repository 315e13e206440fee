use Rattle.std.proofs.Common.{◌<◌, ◌++◌, length, zip, sym, ap, ap₂, ◌∙◌, arith}
use Rattle.std.proofs.lemmas.Slice.Zip.{either_empty_from_Zip}
use Rattle.std.specs.Iterator.Adapters.{zip_first, zip_second}
use Rattle.std.specs.Slice.Iter.{iter_rest}
use Rattle.sharing.proofs.Dividing.{room, taken, all_taken}
use Rattle.sharing.proofs.rebuilding.paired.Goals as goal

pub push-requires : goal.push-requires
push-requires c =
    let left = c.in-Some.ensures.steps in
    let here : length c.loop-seat.pairs.items < length c.args.shares.now =
    room _ c.in-Some.seat.now c.in-Some.share.now _ _ c.args.seats.now c.args.shares.now (ap (λ ps. c.loop-seat.pairs.items ++ ps) (sym (ap₂ zip left.0 left.1)) ∙ c.loop-seat.invariant) in
    let few : length c.loop-seat.pairs.items < 9 = omega arith in
    (omega arith, few)

pub loop-seat-preserved : goal.loop-seat-preserved
loop-seat-preserved c =
    let left = c.in-Some.ensures.steps in
    let rest = c.next.new.self in
    ap (λ ps. ps ++ zip (iter_rest (zip_first rest)) (iter_rest (zip_second rest))) c.push.ensures.items
    ∙ taken c.loop-seat.pairs.items c.in-Some.seat.now c.in-Some.share.now (iter_rest (zip_first rest)) (iter_rest (zip_second rest))
    ∙ ap (λ ps. c.loop-seat.pairs.items ++ ps) (sym (ap₂ zip left.0 left.1)) ∙ c.loop-seat.invariant

pub returns : goal.returns
returns c =
    let it = c.loop-seat.seat-iterator in
    sym (all_taken c.loop-seat.pairs.items (iter_rest (zip_first it)) (iter_rest (zip_second it)) (either_empty_from_Zip it c.next.new.self c.next.result c.in-None.is c.next.ensures.steps))
    ∙ c.loop-seat.invariant
