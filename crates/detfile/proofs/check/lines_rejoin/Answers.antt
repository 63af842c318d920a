use Rattle.detfile.proofs.VerdictProofs.{lined}
use Rattle.detfile.proofs.check.lines_rejoin.Goals as goal

pub returns : goal.returns
returns c = lined
