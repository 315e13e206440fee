use Rattle.std.proofs.Common.{◌≡◌, sym, ap, ◌∙◌, arith, rules, tests}
use Rattle.std.proofs.lemmas.Iterator.{YieldsList-from_slice}
use Rattle.std.proofs.lemmas.Iterator.Consumers.{count_from_yields_List}
use Rattle.std.proofs.lemmas.Iterator.Search.{YieldsList-from_take_while}
use Rattle.reading.specs.Forms.{is_letter, front}
use Rattle.reading.specs.Read.{faulted}
use Rattle.reading.specs.declared.token.Cause.TheVariants.{Byte}
use Rattle.reading.proofs.Along.{fault_at, took, word_long, word_some}
use Rattle.reading.proofs.Fronts.{front_counted, front_fits}
use Rattle.reading.proofs.cursor.Cursor.word.Goals as goal
use Rattle.reading.proofs.cursor.Cursor.word.Goals.{After-count}

counted : (c : After-count) → c.count.result ≡ front is_letter c.args.self.now.rest.now
counted c =
    let r = c.args.self.now.rest.now in
    front_counted is_letter r _
    (count_from_yields_List c.take_while-letters.result _ c.count.ensures.ran
    (YieldsList-from_take_while _ is_letter (YieldsList-from_slice r cc) c.take_while-letters.ensures.closure c.take_while-letters.ensures.done (λ x b q k. search (rules, tests))))

pub returns-in_default : goal.returns-in_default
returns-in_default c =
    let a = c.args.self.now in
    let e = c.fault-in_default.ensures in
    let moved = c.advance-in_default.ensures.moved in
    let n = counted (goal.at.returns-in_default c).After-count in
    fault_at a c.advance-in_default.new.self c.fault-in_default.result Byte _ moved.0 e.place e.cause
    (word_long a.place.column a.rest.now (omega arith) ∙ ap (faulted 20) (sym moved.1))

pub returns-in-1-to-8 : goal.returns-in-1-to-8
returns-in-1-to-8 c =
    let a = c.args.self.now in
    let n = counted (goal.at.returns-in-1-to-8 c).After-count in
    let fits = front_fits is_letter a.rest.now in
    grind (arith, took a c.advance.new.self c.advance.result c.count.result, word_some a.place.column a.rest.now c.count.result)
