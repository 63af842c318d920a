use Rattle.std.proofs.Common.{◌≡◌, ◌∷◌, sym, ◌∙◌}
use Rattle.terms.specs.Told.{fine}
use Rattle.accounts.specs.Histories.{reserves}
use Rattle.accounts.proofs.Keeping.{slip_day}
use Rattle.jobs.proofs.Jobbing.{refused, posted, stopped}
use Rattle.jobs.proofs.Walking.{reached_all}
use Rattle.jobs.proofs.Watching.{watch_idle, watch_day}
use Rattle.jobs.proofs.Restoring.{not_reserved, withdrawn, not_posted}
use Rattle.jobs.proofs.job.work_job.Goals as goal

pub returns-in-Err : goal.returns-in-Err
returns-in-Err g c =
    let r = c.in-Err.ensures in
    let e = refused (g.R.Rounding.rounded c.args.rule) (g.S.Source.table c.args.source.now) c.args.day c.args.bills.now c.args.warnings.now (g.B.Book.kept c.args.book.now) (g.B.Book.kept c.reserve.new.book) r.kept c.in-Err.refusal r.answer r.law in
    record { answer = e.answer; kept = e.kept; beside = r.beside; bills = e.bills; warnings = e.warnings; watch = watch_idle g.W.Watch.told (g.S.Source.table c.args.source.now) c.args.day c.args.warnings.now (g.B.Book.kept c.args.book.now) (g.W.Watch.state c.args.watch.now) c.in-Err.refusal r.answer; unchanged = not_reserved (g.B.Book.kept c.args.book.now) c.args.day _ c.in-Err.refusal r.answer r.kept; law = e.law; difference = λ h holds. tt }

pub returns-in-Ok-post : goal.returns-in-Ok-post
returns-in-Ok-post g c =
    let day : c.in-Ok.slip.day ≡ c.args.day = (slip_day c.args.day _ _ c.in-Ok.ensures.answer).0 in
    let r = simp day at c.in-Ok.ensures in
    let w = simp (c.run_day_of.ensures, day) at c.run_day-run.ensures in
    let ended = rw c.in-Ok-ended.is at w.told in
    let all = reached_all (g.S.Source.table c.args.source.now) c.args.day c.args.warnings.now 96 (sym ended) in
    let sheet = simp all at w.sheet in
    let law = simp all at w.law in
    let p = simp day at c.in-Ok-post.ensures in
    let e = posted (g.R.Rounding.rounded c.args.rule) (g.S.Source.table c.args.source.now) c.args.day c.args.bills.now c.args.warnings.now (g.B.Book.kept c.args.book.now) (g.B.Book.kept c.reserve.new.book) r.kept c.run_day-run.result.sheet.work _ _ _ _ r.answer ended w.warnings sheet law p.answer p.kept p.bills r.law p.law in
    record { answer = e.answer; kept = e.kept; beside = p.beside ∙ r.beside; bills = e.bills; warnings = e.warnings; watch = watch_day g.W.Watch.told (g.S.Source.table c.args.source.now) c.args.day c.args.warnings.now (g.B.Book.kept c.args.book.now) (g.W.Watch.state c.args.watch.now) _ r.answer w.watch; unchanged = tt; law = e.law; difference = λ h holds. p.difference (reserves c.args.day (fine c.args.day) ∷ h) _ (r.law h holds) law }

pub returns-in-Err-post : goal.returns-in-Err-post
returns-in-Err-post g c =
    let day : c.in-Ok.slip.day ≡ c.args.day = (slip_day c.args.day _ _ c.in-Ok.ensures.answer).0 in
    let r = simp day at c.in-Ok.ensures in
    let w = simp (c.run_day_of.ensures, day) at c.run_day-run.ensures in
    let ended = rw c.in-Ok-ended.is at w.told in
    let all = reached_all (g.S.Source.table c.args.source.now) c.args.day c.args.warnings.now 96 (sym ended) in
    let sheet = simp all at w.sheet in
    let law = simp all at w.law in
    let p = simp day at c.in-Err-post.ensures in
    let e = posted (g.R.Rounding.rounded c.args.rule) (g.S.Source.table c.args.source.now) c.args.day c.args.bills.now c.args.warnings.now (g.B.Book.kept c.args.book.now) (g.B.Book.kept c.reserve.new.book) r.kept c.run_day-run.result.sheet.work _ _ _ _ r.answer ended w.warnings sheet law p.answer p.kept p.bills r.law p.law in
    record { answer = e.answer; kept = e.kept; beside = p.beside ∙ r.beside; bills = e.bills; warnings = e.warnings; watch = watch_day g.W.Watch.told (g.S.Source.table c.args.source.now) c.args.day c.args.warnings.now (g.B.Book.kept c.args.book.now) (g.W.Watch.state c.args.watch.now) _ r.answer w.watch; unchanged = not_posted (g.B.Book.kept c.args.book.now) c.args.day (g.met.B.Book.sound c.args.book.now) _ r.answer r.kept _ _ _ c.in-Err-post.refusal p.answer p.kept; law = e.law; difference = λ h holds. tt }

pub returns-in-Err-ended : goal.returns-in-Err-ended
returns-in-Err-ended g c =
    let day : c.in-Ok.slip.day ≡ c.args.day = (slip_day c.args.day _ _ c.in-Ok.ensures.answer).0 in
    let r = simp day at c.in-Ok.ensures in
    let w = simp (c.run_day_of.ensures, day) at c.run_day-run.ensures in
    let ended = rw c.in-Err-ended.is at w.told in
    let p = simp day at c.give_up.ensures in
    let e = stopped (g.R.Rounding.rounded c.args.rule) (g.S.Source.table c.args.source.now) c.args.day c.args.bills.now c.args.warnings.now (g.B.Book.kept c.args.book.now) (g.B.Book.kept c.reserve.new.book) r.kept c.in-Err-ended.refusal _ _ r.answer ended w.warnings p.kept r.law p.law in
    record { answer = rw p.same e.answer; kept = e.kept; beside = p.beside ∙ r.beside; bills = e.bills; warnings = e.warnings; watch = watch_day g.W.Watch.told (g.S.Source.table c.args.source.now) c.args.day c.args.warnings.now (g.B.Book.kept c.args.book.now) (g.W.Watch.state c.args.watch.now) _ r.answer w.watch; unchanged = withdrawn (g.B.Book.kept c.args.book.now) c.args.day (g.met.B.Book.sound c.args.book.now) _ r.answer r.kept _ p.kept; law = e.law; difference = λ h holds. tt }
