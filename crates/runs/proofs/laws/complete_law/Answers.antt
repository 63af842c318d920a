use Rattle.runs.proofs.Asking.{complete, complete_over}
use Rattle.runs.proofs.laws.complete_law.Goals as goal

pub returns : goal.returns
returns c = record { interval = complete; run = complete_over }
