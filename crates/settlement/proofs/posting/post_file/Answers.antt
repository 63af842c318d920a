use Rattle.std.proofs.Common.{sym, ap, subst, ◌∙◌, ◌++◌, refl}
use Rattle.imagebook.specs.Images.{opened}
use Rattle.accounts.specs.Histories.{History, Accounts}
use Rattle.settlement.specs.Postings.{posted}
use Rattle.settlement.proofs.Opened.{posted_refused, posted_checked, heard_refused, heard_checked, law_left, new_law}
use Rattle.settlement.proofs.posting.post_file.Goals as goal

pub returns-in-Ok : goal.returns-in-Ok
returns-in-Ok g c =
    let f = c.args.reading.now.file in
    let ws = c.args.warnings.now in
    let book = c.args.book.items in
    let p = c.post_sound.ensures in
    let is = posted_checked f ws book c.in-Ok.field-0 c.in-Ok.ensures in
    let law : (h : History) → Accounts h (opened book) → Accounts ((posted f ws book).calls ++ h) (opened c.post_sound.result.book.items) = λ h holds. subst (λ o. Accounts (o.calls ++ h) (opened c.post_sound.result.book.items)) (sym is) (p.law h holds) in
    record {
      book = p.book ∙ ap (λ o. o.book) (sym is);
      answer = p.answer ∙ ap (λ o. o.answer) (sym is);
      warnings = p.warnings ∙ ap (λ o. o.warnings) (sym is);
      watch = p.watch ∙ heard_checked f ws book g.W.Watch.told _ c.in-Ok.field-0 c.in-Ok.ensures;
      unchanged = p.unchanged;
      law = law;
      new_book = λ places few new. new_law places (posted f ws book).calls _ book few new law;
      difference = p.difference;
    }

pub returns-in-Err : goal.returns-in-Err
returns-in-Err g c =
    let f = c.args.reading.now.file in
    let ws = c.args.warnings.now in
    let book = c.args.book.items in
    let is = posted_refused f ws book c.in-Err.refusal c.in-Err.ensures in
    let law : (h : History) → Accounts h (opened book) → Accounts ((posted f ws book).calls ++ h) (opened book) = law_left (posted f ws book) book book (ap (λ o. o.calls) is) refl in
    record {
      book = ap (λ o. o.book) (sym is);
      answer = ap (λ o. o.answer) (sym is);
      warnings = ap (λ o. o.warnings) (sym is);
      watch = heard_refused f ws book g.W.Watch.told _ c.in-Err.refusal c.in-Err.ensures;
      unchanged = refl;
      law = law;
      new_book = λ places few new. new_law places (posted f ws book).calls _ book few new law;
      difference = λ h holds. tt;
    }
