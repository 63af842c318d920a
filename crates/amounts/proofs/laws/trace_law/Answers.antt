use Rattle.amounts.proofs.Traced.{amounts_bound}
use Rattle.amounts.proofs.laws.trace_law.Goals as goal

pub returns : goal.returns
returns c = amounts_bound
