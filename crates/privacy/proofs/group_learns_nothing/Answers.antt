use Rattle.privacy.proofs.Hiding.{group_learns_nothing}
use Rattle.privacy.proofs.group_learns_nothing.Goals as goal

pub returns : goal.returns
returns c = group_learns_nothing
