use Rattle.intervals.proofs.Wording.{asking}
use Rattle.intervals.proofs.laws.asking_law.Goals as goal

pub returns : goal.returns
returns c = asking
