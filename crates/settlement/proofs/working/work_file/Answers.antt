use Rattle.std.proofs.Common.{sym, ap, ◌∙◌}
use Rattle.terms.specs.Limits.{last_interval}
use Rattle.terms.specs.Sources.{Table}
use Rattle.settlement.specs.SameDays.{SameDay}
use Rattle.settlement.specs.Tables.{chosen, table_of}
use Rattle.settlement.proofs.Billed.{chosen_same}
use Rattle.settlement.proofs.DayWalked.{watched_same}
use Rattle.settlement.proofs.Worked.{checked_day, worked_refused, worked_done, worked_no_day, heard_refused, heard_done, heard_no_day, worked_is, warnings_are, law_is, whole_is}
use Rattle.settlement.proofs.working.work_file.Goals as goal

pub returns-in-Ok-try_from : goal.returns-in-Ok-try_from
returns-in-Ok-try_from g c =
    let r = c.args.reading.now in
    let f = r.file in
    let ws = c.args.warnings.now in
    let rd = g.R.Rounding.rounded c.args.rule in
    let t : Table = chosen f.fill (g.S.Source.table r.source) in
    let same : SameDay f.day t (table_of f) = chosen_same f.fill f.day (g.S.Source.table r.source) _ (record { agree = r.answers }) in
    let day = c.in-Ok-try_from.ensures in
    let y = checked_day c.in-Ok-try_from.day.day f.day day in
    let w = simp y at c.run_day.ensures in
    let is = worked_done f ws rd c.in-Ok.field-0 _ c.in-Ok.ensures day in
    record {
      answer = worked_is f ws t same rd _ _ w.sheet w.told is;
      warnings = warnings_are f ws t same rd _ w.warnings is;
      watch = w.watch ∙ watched_same f.day t (table_of f) same g.W.Watch.told ws _ last_interval ∙ heard_done f ws g.W.Watch.told _ c.in-Ok.field-0 _ c.in-Ok.ensures day;
      law = law_is f ws t same rd _ w.law;
      whole = whole_is f ws t same rd _ _ w.told w.law;
    }

pub returns-in-Err : goal.returns-in-Err
returns-in-Err g c =
    let f = c.args.reading.now.file in
    let ws = c.args.warnings.now in
    let rd = g.R.Rounding.rounded c.args.rule in
    let is = worked_refused f ws rd c.in-Err.refusal c.in-Err.ensures in
    record {
      answer = ap (λ o. o.answer) (sym is);
      warnings = ap (λ o. o.warnings) (sym is);
      watch = heard_refused f ws g.W.Watch.told _ c.in-Err.refusal c.in-Err.ensures;
      law = tt;
      whole = tt;
    }

pub returns-in-Err-try_from : goal.returns-in-Err-try_from
returns-in-Err-try_from g c =
    let f = c.args.reading.now.file in
    let ws = c.args.warnings.now in
    let rd = g.R.Rounding.rounded c.args.rule in
    let day = c.in-Err-try_from.ensures in
    let is = worked_no_day f ws rd c.in-Ok.field-0 c.in-Err-try_from.refusal c.in-Ok.ensures day in
    record {
      answer = ap (λ o. o.answer) (sym is);
      warnings = ap (λ o. o.warnings) (sym is);
      watch = heard_no_day f ws g.W.Watch.told _ c.in-Ok.field-0 c.in-Err-try_from.refusal c.in-Ok.ensures day;
      law = tt;
      whole = tt;
    }
