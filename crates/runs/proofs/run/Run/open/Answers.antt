use Rattle.runs.proofs.Growing.{worked_none}
use Rattle.runs.proofs.run.Run.open.Goals as goal

pub returns-clause-law : goal.returns-clause-law
returns-clause-law g c =
    let start = c.start-work.ensures in
    worked_none _ _ _ (g.met.R.Rounding.near c.args.rule) start.day start.intervals start.charged start.totals
