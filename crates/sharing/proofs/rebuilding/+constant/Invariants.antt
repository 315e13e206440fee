use Rattle.sharing.proofs.rebuilding.+constant.Given as goal

abbrev pub decreases-constant : goal.decreases-constant
decreases-constant g l = l.k
