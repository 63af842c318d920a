use Rattle.jobs.proofs.days.run_day.Goals as goal

pub returns-clause-sheet : goal.returns-clause-sheet
returns-clause-sheet g c =
    let run = c.open-run.ensures in
    let law = simp (run.rule, run.law.day) at c.work_intervals-ended.ensures.law in
    c.close.ensures.said _ law
