use Rattle.worked.proofs.Computed.{works}
use Rattle.worked.proofs.laws.table_holds.Goals as goal

pub returns : goal.returns
returns c = works
