use Rattle.terms.proofs.Decides.{decision}
use Rattle.sources.proofs.records.RecordSourceSource.ask.Goals as goal

pub returns-clause-law : goal.returns-clause-law
returns-clause-law c = λ _. decision _ _ _ c.decided.ensures
