use Rattle.std.proofs.Common.{◌≡◌, Bool, ◌&&◌, List, [], ◌∷◌, take, refl, ap, ◌∙◌, rules}
use Rattle.std.specs.List.{list_all}
use Rattle.std.proofs.lemmas.Iterator.{YieldsList-from_slice, YieldsList-from_take}
use Rattle.std.proofs.lemmas.Iterator.Search.{all_from_yields_List}
use Rattle.book.specs.Slates.{all_set}
use Rattle.book.proofs.slate.first_set.Goals as goal

all_set_is : (flags : List Bool) → list_all (λ set. set) flags ≡ all_set flags
all_set_is [] = refl
all_set_is (set ∷ rest) = ap (λ r. set && r) (all_set_is rest)

pub returns : goal.returns
returns c =
    all_from_yields_List (λ set. set) _ _ _ c.all.ensures.ran
    (YieldsList-from_take c.args.n (YieldsList-from_slice c.args.flags.now cc) cc) (λ x b q k. search rules)
    ∙ all_set_is (take c.args.n c.args.flags.now)
