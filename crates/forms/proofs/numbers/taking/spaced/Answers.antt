use Rattle.std.proofs.Common.{◌≡◌, ◌≤◌, eqb, [], ◌∷◌, ◌++◌, length, ap, ◌∙◌, arith, rules, tests}
use Rattle.std.proofs.lemmas.Iterator.Splits.{YieldsList-from_slice_split}
use Rattle.std.proofs.lemmas.Iterator.Consumers.{YieldsList-turn, YieldsList-end}
use Rattle.std.proofs.lemmas.List.{length_push, length-take-le}
use Rattle.forms.specs.Lists.{numbers_in, taken_in}
use Rattle.forms.proofs.Taking.{leaves_all, leaves_at, no_number, no_room, after_number, was_full, was_taken, all_taken}
use Rattle.forms.proofs.numbers.taking.spaced.Goals as goal

pub loop-digits-init : goal.loop-digits-init
loop-digits-init c = leaves_all c.args.bytes.now _ c.none-numbers.ensures

pub returns-in_err-value : goal.returns-in_err-value
returns-in_err-value c =
    let l = c.loop-digits in
    let road = YieldsList-from_slice_split _ (λ b. eqb b 32) c.args.bytes.now (cc) (cc) (cc) (λ x b q k. search (rules, tests)) in
    let turn = YieldsList-turn road l.yielded _ l.yielded_by _ _ c.in-Some.digits c.in-Some.is c.next.ensures.steps in
    ap taken_in c.from_residual.ensures ∙ no_number c.args.bytes.now (numbers_in l.numbers) _ _ turn l.invariant c.in_err-value.ensures

pub loop-digits-preserved : goal.loop-digits-preserved
loop-digits-preserved c =
    let l = c.loop-digits in
    let bytes = c.args.bytes.now in
    let xs = numbers_in l.numbers in
    let more : numbers_in c.in_ok-numbers.numbers ≡ xs ++ c.in_ok-value.field-0 ∷ [] = was_taken xs _ _ c.in_ok-numbers.ensures in
    let road = YieldsList-from_slice_split _ (λ b. eqb b 32) bytes (cc) (cc) (cc) (λ x b q k. search (rules, tests)) in
    let turn = YieldsList-turn road l.yielded _ l.yielded_by _ _ c.in-Some.digits c.in-Some.is c.next.ensures.steps in
    leaves_at bytes more (length_push l.yielded c.in-Some.digits) (after_number bytes xs _ _ turn l.invariant c.in_ok-value.field-0 c.in_ok-value.ensures)

pub returns-in_err-numbers : goal.returns-in_err-numbers
returns-in_err-numbers c =
    let l = c.loop-digits in
    let xs = numbers_in l.numbers in
    let road = YieldsList-from_slice_split _ (λ b. eqb b 32) c.args.bytes.now (cc) (cc) (cc) (λ x b q k. search (rules, tests)) in
    let turn = YieldsList-turn road l.yielded _ l.yielded_by _ _ c.in-Some.digits c.in-Some.is c.next.ensures.steps in
    ap taken_in c.from_residual-in_err-numbers.ensures ∙ no_room c.args.bytes.now xs _ _ turn l.invariant (was_full xs _ c.in_err-numbers.ensures)

pub returns : goal.returns
returns c =
    let l = c.loop-digits in
    let s = l.numbers in
    let few : length (numbers_in s) ≤ 9 = omega (arith, length-take-le s.count s.codes) in
    let road = YieldsList-from_slice_split _ (λ b. eqb b 32) c.args.bytes.now (cc) (cc) (cc) (λ x b q k. search (rules, tests)) in
    let end = YieldsList-end road l.yielded _ l.yielded_by _ _ c.in-None.is c.next.ensures.steps in
    all_taken c.args.bytes.now (numbers_in s) _ end.1 few l.invariant
