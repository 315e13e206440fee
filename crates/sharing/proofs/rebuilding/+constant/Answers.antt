use Rattle.std.proofs.Common.{ℕ, eqb, ◌∙◌, arith, rules}
use borrow.Author.Tests.{tests}
use Rattle.std.proofs.lemmas.Iterator.{YieldsList-from_slice}
use Rattle.std.proofs.lemmas.Iterator.Search.{all_from_yields_List}
use Rattle.sharing.proofs.Dividing.{none_valued, fitted_round}
use Rattle.sharing.proofs.rebuilding.+constant.Goals as goal

pub returns-then-k-eq0 : goal.returns-then-k-eq0
returns-then-k-eq0 g t c =
    let none = all_from_yields_List (λ (p : ℕ × ℕ). eqb p.1 0) _ _ c.all.result c.all.ensures.ran (YieldsList-from_slice c.args.pairs.now cc) (λ x b q k. search (rules, tests)) ∙ none_valued c.args.pairs.now in
    search rules

pub returns-in_err-quotient : goal.returns-in_err-quotient
returns-in_err-quotient g t c =
    let p = c.in_ok-pairs.first.now in
    let round = fitted_round g.K.Kind.ops c.args.k p.0 p.1 _ _ _ _ (omega arith) c.divide.ensures.seats c.divide.ensures.values in
    search rules

pub returns : goal.returns
returns g t c =
    let p = c.in_ok-pairs.first.now in
    let round = fitted_round g.K.Kind.ops c.args.k p.0 p.1 _ _ _ _ (omega arith) c.divide.ensures.seats c.divide.ensures.values in
    search rules
