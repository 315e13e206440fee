use Rattle.privacy.proofs.Living.{lives_are_runs}
use Rattle.privacy.proofs.lives_are_runs.Goals as goal

pub returns : goal.returns
returns c = lives_are_runs
