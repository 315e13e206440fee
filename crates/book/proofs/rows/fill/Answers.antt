use Rattle.std.proofs.Common.{cond, leb, rules, tests}
use Rattle.book.proofs.rows.fill.Goals as goal

pub returns : goal.returns
returns g c code is_code = c.numbered.ensures (λ i. cond (leb i c.args.n) (code i) 0) (λ i v k. search (rules, tests, is_code))
