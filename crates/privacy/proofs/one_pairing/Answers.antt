use Rattle.privacy.proofs.Cutting.{one_pairing}
use Rattle.privacy.proofs.one_pairing.Goals as goal

pub returns : goal.returns
returns c = one_pairing
