use Rattle.std.proofs.Common.{ℕ, ◌<◌, slice_index, sym, ap, subst, ◌∙◌}
use Rattle.accounts.specs.Histories.{Accounts}
use Rattle.books.specs.ShelvesKept.{sound_of}
use Rattle.imagebook.specs.Images.{places_in, image_read}
use Rattle.imagebook.specs.ImagesKept.{few_places}
use Rattle.settlement.specs.Postings.{posted_sound}
use Rattle.settlement.proofs.Opened.{is_broken, is_read, sound_broken, heard_broken, book_is, answer_is, warnings_are, watch_is, law_is, same_is, law_left, if_refused}
use Rattle.settlement.proofs.posting.post_sound.Goals as goal

pub returns-in-Some : goal.returns-in-Some
returns-in-Some g c =
    let f = c.args.reading.now.file in
    let ws = c.args.warnings.now in
    let book = c.args.book.items in
    let e = c.in-Some.fault in
    let broken = is_broken (image_read book) e (sym c.new-book.ensures.fault ∙ c.in-Some.is) in
    let left = sound_broken f ws book e broken in
    let same = c.close.ensures.bytes ∙ c.new-book.ensures.bytes in
    record {
      book = same ∙ ap (λ o. o.book) (sym left);
      answer = ap (λ o. o.answer) (sym left);
      warnings = ap (λ o. o.warnings) (sym left);
      watch = heard_broken f ws book g.W.Watch.told _ e broken;
      unchanged = same;
      law = law_left (posted_sound f ws book) c.close.result.items book (ap (λ o. o.calls) left) same;
      difference = λ h holds. tt;
    }

pub returns-in-None : goal.returns-in-None
returns-in-None g c =
    let f = c.args.reading.now.file in
    let ws = c.args.warnings.now in
    let book = c.args.book.items in
    let after = c.post_to-answer.new.book in
    let p = c.post_to-answer.ensures in
    let o = c.new-book.ensures in
    let r = is_read (image_read book) (sym o.fault ∙ c.in-None.is) in
    let sound = sound_of (places_in after.store.count after.store.bytes.items) after.used (few_places after.store.count after.store.bytes.items after.store.few) after.within after.rising after.each in
    let small = subst (λ bs. (i : ℕ) → slice_index bs i < 256) o.bytes c.new-book.result.book.store.small in
    let beside = p.beside ∙ o.beside in
    record {
      book = book_is f ws book _ _ _ _ r.days r.is o.kept beside c.close-in-None.ensures.image p.kept;
      answer = answer_is f ws book _ _ _ _ r.days r.is o.kept beside c.close-in-None.ensures.image _ p.answer;
      warnings = warnings_are f ws book _ _ _ _ r.days r.is o.kept beside c.close-in-None.ensures.image _ p.warnings;
      watch = watch_is f ws book _ _ _ _ r.days r.is o.kept beside c.close-in-None.ensures.image g.W.Watch.told _ _ p.watch;
      unchanged = if_refused c.post_to-answer.result (same_is f ws book _ _ _ _ r.days r.is o.kept beside c.close-in-None.ensures.image small) p.unchanged;
      law = law_is f ws book _ _ _ _ r.days r.is o.kept beside c.close-in-None.ensures.image sound p.law;
      difference = λ h holds. p.difference h (subst (λ k. Accounts h k) (sym o.kept) holds);
    }
