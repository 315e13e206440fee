use Rattle.std.proofs.Common.{◌∙◌, nat_lt}
use Rattle.std.proofs.lemmas.Iterator.{YieldsList-from_slice}
use Rattle.std.proofs.lemmas.Iterator.Search.{all_from_yields_List}
use Rattle.sharing.proofs.Scans.{list_all-all_below}
use Rattle.sharing.proofs.rebuilding.are_below.Goals as goal
use borrow.Author.Tests.{tests}
use Rattle.std.proofs.Common.{rules}

pub returns : goal.returns
returns c =
    all_from_yields_List (λ x. nat_lt x c.args.size) _ _ _ c.all.ensures.ran (YieldsList-from_slice c.args.codes.now cc) (λ x b q k. search (rules, tests))
    ∙ list_all-all_below c.args.size c.args.codes.now
