use Rattle.std.proofs.Common.{rules}
use Rattle.runs.proofs.Saying.{said_is}
use Rattle.runs.proofs.run.Run.close.Goals as goal

pub returns-clause-said : goal.returns-clause-said
returns-clause-said g c = λ t by. said_is t c.args.self.work by (search rules)
