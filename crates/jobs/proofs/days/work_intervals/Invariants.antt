use Rattle.std.proofs.Common.{◌≡◌, false}
use Rattle.runs.specs.Works.{WorkedBy}
use Rattle.terms.specs.Told.{fine}
use Rattle.jobs.specs.Days.{walked, watched, run_over}
use Rattle.jobs.proofs.days.work_intervals.Given as goal

abbrev pub invariant-loop-worked : goal.invariant-loop-worked
invariant-loop-worked g l = record {
  going : l.run.stopped ≡ false;
  rule : l.run.rule ≡ l.initial.run.rule;
  walked : walked (g.S.Source.table l.source) l.initial.run.work.day l.initial.warnings l.worked ≡ record { told = fine tt; warnings = l.warnings };
  watch : g.W.Watch.state l.watch ≡ watched g.W.Watch.told (g.S.Source.table l.source) l.initial.run.work.day l.initial.warnings (g.W.Watch.state l.initial.watch) l.worked;
  law : WorkedBy (run_over l.initial.run.work.day (g.R.Rounding.rounded l.initial.run.rule) l.worked (g.S.Source.table l.source)) l.run.work;
}
