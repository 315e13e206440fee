use Rattle.std.proofs.Common.{map, Err, ap, ◌∙◌}
use Rattle.std.proofs.lemmas.Result.{err_from_is_err_and}
use Rattle.reading.specs.Told.{told}
use Rattle.forms.specs.Judging.{judged}
use Rattle.tally.specs.Desks.{desk_of}
use Rattle.tally.proofs.Answered.{answer_says}
use Rattle.tally.proofs.Taken.{not_read, not_judged, done_so, by_error}
use Rattle.tally.proofs.line.take_line.Goals as goal

pub returns-in_err-tokens-clause-taken : goal.returns-in_err-tokens-clause-taken
returns-in_err-tokens-clause-taken c =
    let p = err_from_is_err_and c.from_residual.result c.from_residual.ensures.1 in
    let is = p.1 ∙ ap Err p.2 in
    let d = desk_of c.args.desk.now in
    let line = c.args.reader.now.line in
    let bytes = c.args.reader.now.rest.now in
    let next = c.read_line.new.self.line in
    let rest = c.read_line.new.self.rest.now in
    by_error d d line next bytes rest c.from_residual.result _ is (not_read d d line next bytes rest _ c.in_err-tokens.ensures.defined)

pub returns-in_err-order-clause-taken : goal.returns-in_err-order-clause-taken
returns-in_err-order-clause-taken c =
    let p = err_from_is_err_and c.from_residual-in_err-order.result c.from_residual-in_err-order.ensures.1 in
    let is = p.1 ∙ ap Err p.2 in
    let d = desk_of c.args.desk.now in
    let line = c.args.reader.now.line in
    let bytes = c.args.reader.now.rest.now in
    let next = c.read_line.new.self.line in
    let rest = c.read_line.new.self.rest.now in
    let got = c.in_ok-tokens.ensures in
    by_error d d line next bytes rest c.from_residual-in_err-order.result _ is
    (not_judged got.spells c.judge.ensures.forms line next bytes rest _ (answer_says bytes line _ got.defined) got.moves d c.judge.result _ (c.judge.ensures.answer ∙ ap (λ ts. judged (map told ts)) c.as_slice.ensures.value) c.in_err-order.was)

pub returns-in_err-follow-clause-taken : goal.returns-in_err-follow-clause-taken
returns-in_err-follow-clause-taken c =
    let p = err_from_is_err_and c.from_residual-in_err-follow.result c.from_residual-in_err-follow.ensures.1 in
    let is = p.1 ∙ ap Err p.2 in
    let d = desk_of c.args.desk.now in
    let after = desk_of c.follow.new.self in
    let line = c.args.reader.now.line in
    let bytes = c.args.reader.now.rest.now in
    let next = c.read_line.new.self.line in
    let rest = c.read_line.new.self.rest.now in
    let got = c.in_ok-tokens.ensures in
    by_error d after line next bytes rest c.from_residual-in_err-follow.result _ is
    (done_so got.spells c.judge.ensures.forms line next bytes rest _ (answer_says bytes line _ got.defined) got.moves d after c.judge.result _ _
    (c.judge.ensures.answer ∙ ap (λ ts. judged (map told ts)) c.as_slice.ensures.value) c.in_ok-order.was c.in_err-follow.ensures.answer c.follow.ensures.desk)

pub returns-clause-taken : goal.returns-clause-taken
returns-clause-taken c =
    let d = desk_of c.args.desk.now in
    let after = desk_of c.follow.new.self in
    let line = c.args.reader.now.line in
    let bytes = c.args.reader.now.rest.now in
    let next = c.read_line.new.self.line in
    let rest = c.read_line.new.self.rest.now in
    let got = c.in_ok-tokens.ensures in
    done_so got.spells c.judge.ensures.forms line next bytes rest _ (answer_says bytes line _ got.defined) got.moves d after c.judge.result _ _
    (c.judge.ensures.answer ∙ ap (λ ts. judged (map told ts)) c.as_slice.ensures.value) c.in_ok-order.was c.in_ok-follow.ensures.answer c.follow.ensures.desk
