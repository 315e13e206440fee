use Rattle.privacy.proofs.Totals.{shares_rebuild_values}
use Rattle.privacy.proofs.shares_rebuild_values.Goals as goal

pub returns : goal.returns
returns c = shares_rebuild_values
