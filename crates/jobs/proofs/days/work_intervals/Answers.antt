use Rattle.std.proofs.Common.{◌≡◌, ℕ, refl, sym, ap, ◌∙◌, subst, add-one, arith}
use Rattle.terms.specs.Sources.{Table}
use Rattle.runs.specs.Works.{WorkedBy}
use Rattle.jobs.specs.Days.{Walk, walked, reached, repeated, run_over}
use Rattle.jobs.proofs.Walking.{reached_all, reached_here, next_warned, accepted, still_going, halted, refused}
use Rattle.jobs.proofs.Watching.{watched_none, watch_more, watch_stops}
use Rattle.jobs.proofs.days.work_intervals.Goals as goal

pub loop-worked-init : goal.loop-worked-init
unfolding walked repeated
loop-worked-init g c = record { going = c.requires.going; rule = refl; walked = refl; watch = watched_none _ _ _ _ _; law = c.requires.law }

pub loop-worked-preserved : goal.loop-worked-preserved
unfolding repeated
loop-worked-preserved g c =
    let now = c.loop-worked.invariant in
    let said = c.in-Ok.ensures in
    let t : Table = g.S.Source.table c.args.source.now in
    let rd = g.R.Rounding.rounded c.args.run.now.rule in
    let y = c.args.run.now.work.day in
    let n = c.loop-worked.worked in
    let answer = simp now.rule at said.answer in
    let law = simp (said.rule, now.rule) at (said.law y (repeated n t)) in
    let on = accepted t rd y n c.args.warnings.now c.loop-worked.warnings c.interval.new.warnings c.loop-worked.run.work c.loop-worked.run.stopped now.walked now.law c.loop-worked-test.true now.going c.in-Ok.done answer said.warnings in
    let noted = next_warned t rd y n c.args.warnings.now c.loop-worked.warnings c.interval.new.warnings c.loop-worked.run.work c.loop-worked.run.stopped now.walked now.law c.loop-worked-test.true now.going said.warnings in
    record {
      going = said.stopped ∙ still_going t rd y n c.args.warnings.now c.loop-worked.warnings c.interval.new.warnings c.loop-worked.run.work c.loop-worked.run.stopped now.walked now.law c.loop-worked-test.true now.going c.in-Ok.done answer;
      rule = said.rule ∙ now.rule;
      walked = on;
      watch = watch_more g.W.Watch.told t y c.args.warnings.now (g.W.Watch.state c.args.watch.now) rd n c.loop-worked.warnings c.interval.new.warnings c.loop-worked.run.work c.loop-worked.run.stopped now.law c.loop-worked-test.true now.going c.in-Ok.done _ _ answer noted on now.watch c.worked.ensures;
      law = rw add-one (law now.law);
    }

pub returns-in-Err-clause-told : goal.returns-in-Err-clause-told
returns-in-Err-clause-told g c =
    let now = c.loop-worked.invariant in
    let said = c.in-Err.ensures in
    let answer = simp now.rule at said.answer in
    sym (ap (λ (w : Walk). w.told) (refused (g.S.Source.table c.args.source.now) (g.R.Rounding.rounded c.args.run.now.rule) c.args.run.now.work.day c.loop-worked.worked c.args.warnings.now c.loop-worked.warnings c.interval.new.warnings c.loop-worked.run.work c.loop-worked.run.stopped now.walked now.law c.loop-worked-test.true now.going c.in-Err.refusal answer said.warnings))

pub returns-in-Err-clause-warnings : goal.returns-in-Err-clause-warnings
returns-in-Err-clause-warnings g c =
    let now = c.loop-worked.invariant in
    let said = c.in-Err.ensures in
    let answer = simp now.rule at said.answer in
    sym (ap (λ (w : Walk). w.warnings) (refused (g.S.Source.table c.args.source.now) (g.R.Rounding.rounded c.args.run.now.rule) c.args.run.now.work.day c.loop-worked.worked c.args.warnings.now c.loop-worked.warnings c.interval.new.warnings c.loop-worked.run.work c.loop-worked.run.stopped now.walked now.law c.loop-worked-test.true now.going c.in-Err.refusal answer said.warnings))

pub returns-in-Err-clause-watch : goal.returns-in-Err-clause-watch
returns-in-Err-clause-watch g c =
    let now = c.loop-worked.invariant in
    let said = c.in-Err.ensures in
    let answer = simp now.rule at said.answer in
    let t : Table = g.S.Source.table c.args.source.now in
    let rd = g.R.Rounding.rounded c.args.run.now.rule in
    let y = c.args.run.now.work.day in
    let n = c.loop-worked.worked in
    let off = halted t rd y n c.args.warnings.now c.loop-worked.warnings c.interval.new.warnings c.loop-worked.run.work c.loop-worked.run.stopped now.walked now.law c.loop-worked-test.true now.going c.in-Err.refusal answer said.warnings in
    watch_stops g.W.Watch.told t y c.args.warnings.now (g.W.Watch.state c.args.watch.now) n c.in-Err.refusal c.interval.new.warnings _ c.loop-worked-test.true off now.watch

pub returns-in-Err-clause-law : goal.returns-in-Err-clause-law
returns-in-Err-clause-law g c =
    let now = c.loop-worked.invariant in
    let said = c.in-Err.ensures in
    let answer = simp now.rule at said.answer in
    let t : Table = g.S.Source.table c.args.source.now in
    let rd = g.R.Rounding.rounded c.args.run.now.rule in
    let y = c.args.run.now.work.day in
    let n = c.loop-worked.worked in
    let off = halted t rd y n c.args.warnings.now c.loop-worked.warnings c.interval.new.warnings c.loop-worked.run.work c.loop-worked.run.stopped now.walked now.law c.loop-worked-test.true now.going c.in-Err.refusal answer said.warnings in
    let here = reached_here t rd y n c.args.warnings.now c.loop-worked.warnings c.interval.new.warnings c.loop-worked.run.work c.loop-worked.run.stopped now.walked now.law c.loop-worked-test.true now.going c.in-Err.refusal off in
    let law = simp (said.rule, now.rule) at (said.law y (repeated n t)) in
    subst (λ (m : ℕ). WorkedBy (run_over y rd m t) c.interval.new.self.work) (sym here) (law now.law)

pub returns-clause-law : goal.returns-clause-law
returns-clause-law g c =
    let now = c.loop-worked.invariant in
    let t : Table = g.S.Source.table c.args.source.now in
    let rd = g.R.Rounding.rounded c.args.run.now.rule in
    let y = c.args.run.now.work.day in
    let n = c.loop-worked.worked in
    let through : n ≡ 96 = omega arith in
    let here = reached_all t y c.args.warnings.now n (ap (λ (w : Walk). w.told) now.walked) in
    let all : reached t y c.args.warnings.now 96 ≡ n = ap (reached t y c.args.warnings.now) (sym through) ∙ here in
    subst (λ (m : ℕ). WorkedBy (run_over y rd m t) c.loop-worked.run.work) (sym all) now.law
