use Rattle.std.proofs.Common.{◌≡◌, take, drop, is_some, sym, ap, ◌∙◌, subst, arith, rules, tests}
use Rattle.std.proofs.lemmas.Iterator.{YieldsList-from_slice}
use Rattle.std.proofs.lemmas.Iterator.Consumers.{count_from_yields_List}
use Rattle.std.proofs.lemmas.Iterator.Search.{YieldsList-from_take_while}
use Rattle.reading.specs.Forms.{is_digit, front}
use Rattle.reading.specs.Steps.{WhyNoNumber}
use Rattle.reading.specs.declared.token.Cause.TheVariants.{Digits}
use Rattle.reading.proofs.Along.{took}
use Rattle.reading.proofs.Fronts.{digits_end, front_counted, value_test}
use Rattle.reading.proofs.cursor.Cursor.number.Goals as goal
use Rattle.reading.proofs.cursor.Cursor.number.Goals.{After-count-n}

counted : (c : After-count-n) → c.count-n.result ≡ front is_digit c.args.self.now.rest.now
counted c =
    let r = c.args.self.now.rest.now in
    front_counted is_digit r _
    (count_from_yields_List c.take_while.result _ c.count-n.ensures.ran
    (YieldsList-from_take_while _ is_digit (YieldsList-from_slice r cc) c.take_while.ensures.closure c.take_while.ensures.done (λ x b q k. search (rules, tests))))

pub returns-then-is_none : goal.returns-then-is_none
returns-then-is_none c =
    let a = c.args.self.now in
    let r = a.rest.now in
    let n = c.count-n.result in
    let e = c.fault-then-is_none.ensures in
    let run = digits_end r n (counted (goal.at.returns-then-is_none c).After-count-n) (omega arith) in
    let no_value = sym (value_test (take n r)) ∙ ap is_some (sym c.value.ensures) ∙ c.if-is_none.ensures in
    let why : WhyNoNumber a Digits = (take n r, drop n r, run.0, run.1, no_value, run.2) in
    (e.place, subst (WhyNoNumber a) (sym e.cause) why)

pub returns : goal.returns
returns c =
    let run = digits_end c.args.self.now.rest.now c.count-n.result (counted (goal.at.returns c).After-count-n) (omega arith) in
    grind (arith, run, value_test, took)
