use Rattle.std.proofs.Common.{length, vec_items}
use Rattle.reading.proofs.Items.{Items}
use Rattle.reading.proofs.cursor.Cursor.tokens.Given as goal

abbrev pub invariant-loop-tokens : goal.invariant-loop-tokens
invariant-loop-tokens l = Items l.initial.self l.self (vec_items l.initial.tokens) (vec_items l.tokens)

abbrev pub decreases-loop-tokens : goal.decreases-loop-tokens
decreases-loop-tokens l = length l.self.rest.now
