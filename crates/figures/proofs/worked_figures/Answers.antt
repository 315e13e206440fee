use Rattle.figures.proofs.Working.{worked}
use Rattle.figures.proofs.worked_figures.Goals as goal

pub returns : goal.returns
returns c = worked
