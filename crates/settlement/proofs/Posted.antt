-- Lists of postings on the bytes of a book.
use Rattle.std.proofs.Common.{ℕ, ◌≤◌, List, [], ◌∷◌, ◌++◌, Ok, Err, Result, sym, subst}
use Rattle.terms.specs.Told.{Told, fine, refuse}
use Rattle.rounding.specs.Rounds.{half_away}
use Rattle.rounding.specs.RoundsKept.{away_near}
use Rattle.intervals.specs.declared.warning.Warning.{Warning}
use Rattle.detfile.specs.Files.{checked}
use Rattle.books.specs.Laws.{Sound}
use Rattle.imagebook.specs.declared.fault.ImageFault.{ImageFault}
use Rattle.imagebook.specs.Images.{image_read, opened, image_of}
use Rattle.imagebook.proofs.Imaging.{imaged}
use Rattle.accounts.specs.Histories.{History, Accounts}
use Rattle.accounts.proofs.Effects.{law_new}
use Rattle.settlement.specs.declared.dayfile.DayFile.{DayFile}
use Rattle.settlement.specs.Tables.{table_of}
use Rattle.settlement.specs.Postings.{no_bills, job_of, by_image, by_file, posted_sound, posted}
use Rattle.settlement.specs.Accounts.{most_places, new_image, Begins}
use Rattle.settlement.specs.Lists.{Filing, bytes_after, calls_of}
use Rattle.settlement.proofs.Accepted.{job_goes}
use Rattle.settlement.proofs.Opened.{new_sound, new_means}

-- the law holds between what was called on a book and its bytes, and these mean what a book can keep
record Stands (h : History) (book : List ℕ) : Type 0 where
  pub law : Accounts h (opened book)
  pub sound : Sound (opened book)

module _ (f : DayFile) (ws : List Warning) (book : List ℕ) (h : History) (s : Stands h book) where
  after_job : Stands ((job_of f ws (opened book)).calls ++ h) (image_of (job_of f ws (opened book)).kept)
  after_job =
      let g = job_goes half_away (λ n d i. away_near n d i) (table_of f) f.day no_bills ws (opened book) s.sound in
      let back = sym (imaged (job_of f ws (opened book)).kept g.sound).back in
      record { law = subst (λ k. Accounts ((job_of f ws (opened book)).calls ++ h) k) back (g.law h s.law); sound = subst Sound back g.sound }

  after_image : (r : Result ℕ ImageFault) → Stands ((by_image f ws book r).calls ++ h) (by_image f ws book r).book
  after_image (Ok n) = after_job
  after_image (Err e) = s

  after_sound : Stands ((posted_sound f ws book).calls ++ h) (posted_sound f ws book).book
  unfolding posted_sound
  after_sound = after_image (image_read book)

  after_file : (a : Told ℕ) → Stands ((by_file f ws book a).calls ++ h) (by_file f ws book a).book
  after_file (fine n) = after_sound
  after_file (refuse n vs) = s

  after_posting : Stands ((posted f ws book).calls ++ h) (posted f ws book).book
  unfolding posted
  after_posting = after_file (checked f.bytes.now)

stands_new : (places : ℕ) → places ≤ most_places → Stands [] (new_image places)
stands_new places few =
    let means = sym (new_means places few) in
    record { law = subst (λ k. Accounts [] k) means (law_new places); sound = subst Sound means (new_sound places few) }

stands_after : (places : ℕ) → places ≤ most_places → (ps : List Filing) → Stands (calls_of (new_image places) ps) (bytes_after (new_image places) ps)
unfolding bytes_after calls_of
stands_after places few [] = stands_new places few
stands_after places few (p ∷ ps) = after_posting p.file p.warnings (bytes_after (new_image places) ps) (calls_of (new_image places) ps) (stands_after places few ps)

pub postings_begin : (book : List ℕ) (ps : List Filing) → Begins (calls_of book ps) book (bytes_after book ps)
postings_begin book ps places few is = subst (λ b. Accounts (calls_of b ps) (opened (bytes_after b ps))) (sym is) (stands_after places few ps).law
