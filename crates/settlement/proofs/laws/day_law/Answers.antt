use Rattle.settlement.proofs.DayWalked.{walks_same}
use Rattle.settlement.proofs.DayRuns.{runs_same}
use Rattle.settlement.proofs.DayJobs.{jobs_same, told_same}
use Rattle.settlement.proofs.laws.day_law.Goals as goal

pub returns : goal.returns
returns W c = record { runs = runs_same; walks = walks_same; jobs = jobs_same; watch = λ d t u s. told_same d t u s _ }
