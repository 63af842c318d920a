use Rattle.std.proofs.Common.{ap, ◌∙◌}
use Rattle.terms.specs.Limits.{last_interval}
use Rattle.terms.specs.Sources.{Table}
use Rattle.rounding.specs.Rounds.{half_away}
use Rattle.settlement.specs.Refusals.{answered}
use Rattle.settlement.specs.SameDays.{SameDay}
use Rattle.settlement.specs.Tables.{chosen, table_of}
use Rattle.settlement.proofs.Billed.{chosen_same, on_file, bills_posted, bills_refused}
use Rattle.settlement.proofs.DayRuns.{runs_same, billed_same}
use Rattle.settlement.proofs.DayJobs.{told_same}
use Rattle.settlement.proofs.posting.post_to.Goals as goal

pub returns-in-Ok : goal.returns-in-Ok
returns-in-Ok g c =
    let r = c.args.reading.now in
    let f = r.file in
    let ws = c.args.warnings.now in
    let k = g.B.Book.kept c.args.book.now in
    let t : Table = chosen f.fill (g.S.Source.table r.source) in
    let same : SameDay f.day t (table_of f) = chosen_same f.fill f.day (g.S.Source.table r.source) _ (record { agree = r.answers }) in
    let w = simp c.no_amounts-rows.ensures at c.in-Ok.ensures in
    let d = on_file f t same ws k in
    record {
      answer = ap answered (bills_posted f t same ws k c.in-Ok.charged c.before-before.result c.work_job.new.bills w.answer c.before-before.ensures w.bills);
      kept = w.kept ∙ d.kept;
      beside = w.beside;
      warnings = w.warnings ∙ d.warnings;
      watch = w.watch ∙ (told_same f.day t (table_of f) same g.W.Watch.told).job ws k _;
      unchanged = tt;
      law = λ h a. d.law h _ (w.law h a);
      difference = λ h a. billed_same _ _ (runs_same f.day t (table_of f) same half_away last_interval) _ _ (w.difference h a);
    }

pub returns-in-Err : goal.returns-in-Err
returns-in-Err g c =
    let r = c.args.reading.now in
    let f = r.file in
    let ws = c.args.warnings.now in
    let k = g.B.Book.kept c.args.book.now in
    let t : Table = chosen f.fill (g.S.Source.table r.source) in
    let same : SameDay f.day t (table_of f) = chosen_same f.fill f.day (g.S.Source.table r.source) _ (record { agree = r.answers }) in
    let w = simp c.no_amounts-rows.ensures at c.in-Err.ensures in
    let d = on_file f t same ws k in
    record {
      answer = ap answered (bills_refused f t same ws k c.in-Err.refusal w.answer);
      kept = w.kept ∙ d.kept;
      beside = w.beside;
      warnings = w.warnings ∙ d.warnings;
      watch = w.watch ∙ (told_same f.day t (table_of f) same g.W.Watch.told).job ws k _;
      unchanged = w.unchanged;
      law = λ h a. d.law h _ (w.law h a);
      difference = λ h a. tt;
    }
