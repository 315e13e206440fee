use Rattle.reading.proofs.Listing.{Listing}
use Rattle.reading.proofs.cursor.Cursor.numbers.Given as goal

abbrev pub invariant-loop-count : goal.invariant-loop-count
invariant-loop-count l = Listing l.initial.self l.self l._count
