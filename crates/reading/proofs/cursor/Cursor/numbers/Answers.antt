use Rattle.std.proofs.Common.{arith, subst}
use Rattle.reading.specs.Read.{at_list}
use Rattle.reading.specs.Steps.{run_from, Faults}
use Rattle.reading.proofs.Listing.{listing_fault, listing_more, listing_ends, listing_tenth}
use Rattle.reading.proofs.cursor.Cursor.numbers.Goals as goal

pub returns-in_err-number : goal.returns-in_err-number
returns-in_err-number c = grind (arith, listing_fault c.skip.new.self c.loop-count.self c.number.new.self c.loop-count._count c.in_err-number.field-0.0)

pub returns-then-not-skip : goal.returns-then-not-skip
returns-then-not-skip c = grind (arith, listing_ends c.skip.new.self c.loop-count.self c.number.new.self c.loop-count._count c.in_ok-number.field-0 c.loop-count.invariant c.in_ok-number.ensures c.expect.new.self c.expect.result)

pub loop-count-preserved : goal.loop-count-preserved
loop-count-preserved c = listing_more c.skip.new.self c.loop-count.self c.number.new.self c.loop-count._count c.in_ok-number.field-0 c.loop-count.invariant c.in_ok-number.ensures c.skip-in-loop-count.new.self c.loop-count-test.true c.if-not-skip.ensures.next

pub returns-in_err-number-2 : goal.returns-in_err-number-2
returns-in_err-number-2 c = grind (arith, listing_fault c.skip.new.self c.loop-count.self c.number-2.new.self c.loop-count._count c.in_err-number-2.field-0.0)

pub returns : goal.returns
returns c =
    let e = c.fault.ensures in
    λ f. subst (λ a. Faults a c.fault.result (run_from (at_list f) a)) c.if-skip.ensures.stays
    (listing_tenth c.skip.new.self c.loop-count.self c.number-2.new.self c.loop-count._count c.in_ok-number-2.field-0 c.loop-count.invariant c.in_ok-number-2.ensures c.fault.result c.loop-count-test.false e.place e.cause f)
