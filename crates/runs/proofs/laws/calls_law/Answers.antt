use Rattle.runs.proofs.Calling.{opened, called_more, few, faultless}
use Rattle.runs.proofs.laws.calls_law.Goals as goal

pub returns : goal.returns
returns c = record { opened = opened; called = called_more; few = few; faultless = faultless }
