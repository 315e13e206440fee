use Rattle.std.proofs.Common.{◌≡◌, ◌∷◌, ap, ◌∙◌, rules}
use Rattle.reading.specs.declared.token.Token.TheVariants.{Word}
use Rattle.forms.specs.Judging.{judged_meant}
use Rattle.forms.proofs.Asked.{asked}
use Rattle.forms.proofs.Valued.{list_is_valued, judges_forms}
use Rattle.forms.proofs.judging.judge.Goals as goal

pub returns-in_default-clause-forms : goal.returns-in_default-clause-forms
returns-in_default-clause-forms c = judges_forms

pub returns-in_default-clause-lists : goal.returns-in_default-clause-lists
returns-in_default-clause-lists c = list_is_valued

pub returns-in_default-2-clause-forms : goal.returns-in_default-2-clause-forms
returns-in_default-2-clause-forms c = judges_forms

pub returns-in_default-2-clause-lists : goal.returns-in_default-2-clause-lists
returns-in_default-2-clause-lists c = list_is_valued

pub returns-in_err-word-clause-forms : goal.returns-in_err-word-clause-forms
returns-in_err-word-clause-forms c = judges_forms

pub returns-in_err-word-clause-lists : goal.returns-in_err-word-clause-lists
returns-in_err-word-clause-lists c = list_is_valued

pub returns-clause-answer : goal.returns-clause-answer
returns-clause-answer c =
    let arm = c.in-Some-Word-default in
    let split = arm.ensures.cases.0 in
    let is : c.args.tokens.now ≡ Word arm.part ∷ arm.items.now = search (rules, split) in
    ap judged_meant c.ok_or.ensures.value
    ∙ asked c.args.tokens.now arm.items.now arm.part c.in_ok-word.word c.asks.result is c.in_ok-word.ensures c.asks.ensures

pub returns-clause-forms : goal.returns-clause-forms
returns-clause-forms c = judges_forms

pub returns-clause-lists : goal.returns-clause-lists
returns-clause-lists c = list_is_valued
