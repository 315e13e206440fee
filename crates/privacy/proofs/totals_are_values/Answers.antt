use Rattle.privacy.proofs.Totals.{totals_are_values}
use Rattle.privacy.proofs.totals_are_values.Goals as goal

pub returns : goal.returns
returns c = totals_are_values
