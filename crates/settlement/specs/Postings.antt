-- What the posting of a file comes to, from the bytes of the file and of the book. Assumes nothing.
use Rattle.std.specs.Prelude.{ℕ, List, [], Ok, Err, Result}
use Rattle.std.proofs.Math.ListN.{replicate}
use Rattle.terms.specs.Told.{Told, fine, refuse}
use Rattle.terms.specs.Limits.{last_interval}
use Rattle.rounding.specs.Rounds.{half_away}
use Rattle.amounts.specs.declared.row.Amounts.{Amounts}
use Rattle.amounts.specs.Traces.{Trace, entities}
use Rattle.amounts.specs.Triples.{none}
use Rattle.intervals.specs.declared.warning.Warning.{Warning}
use Rattle.detfile.specs.Files.{checked}
use Rattle.books.specs.declared.place.Place.{Place}
use Rattle.books.specs.Kept.{Kept, entry}
use Rattle.imagebook.specs.declared.fault.ImageFault.{ImageFault}
use Rattle.imagebook.specs.Images.{image_read, opened, image_of}
use Rattle.accounts.specs.Histories.{History}
use Rattle.jobs.specs.Days.{run_over}
use Rattle.jobs.specs.Jobs.{Done, job, job_watched}
use Rattle.settlement.specs.declared.dayfile.DayFile.{DayFile}
use Rattle.settlement.specs.declared.bills.Before.{Before}
use Rattle.settlement.specs.declared.bills.Bills.{Bills}
use Rattle.settlement.specs.Tables.{table_of}
use Rattle.settlement.specs.Refusals.{Ended, answered, no_book}

-- a row for each entity, before anything is billed
abbrev pub no_bills : List Amounts
no_bills = replicate entities none

-- the job of a file on a book that keeps k: over the file's own table, and by half away from zero
abbrev pub job_of : DayFile → List Warning → Kept → Done
job_of f ws k = job half_away (table_of f) f.day no_bills ws k

-- the trace of the run that is posted
abbrev pub run_of : DayFile → Trace
run_of f = run_over f.day half_away last_interval (table_of f)

abbrev pub before_of : Place → Before
before_of x = record { billed = x.billed; amounts = x.amounts }

abbrev pub bills_by : Told ℕ → Before → List Amounts → Told Bills
bills_by (fine c) x rows = fine (record { charged = c; before = x; rows = rows })
bills_by (refuse n vs) x rows = refuse n vs

-- the answer of the job: what is billed, and what the book had of the day until then
abbrev pub bills_of : DayFile → List Warning → Kept → Told Bills
bills_of f ws k = bills_by (job_of f ws k).answer (before_of (entry k f.day)) (job_of f ws k).bills

-- after a posting: the book's bytes, how it ended, the list of warnings, and what was called on the book, the newest call first
pub record AfterPosting : Type 0 where
  pub book : List ℕ
  pub answer : Ended Bills
  pub warnings : List Warning
  pub calls : History

module _ (f : DayFile) (ws : List Warning) (book : List ℕ) where
  -- nothing was called on the book
  abbrev pub left : Ended Bills → AfterPosting
  left a = record { book = book; answer = a; warnings = ws; calls = [] }

  -- the job was done on the book that the bytes mean, and the new bytes are the image of what it leaves
  abbrev pub done : AfterPosting
  done = record {
    book = image_of (job_of f ws (opened book)).kept;
    answer = answered (bills_of f ws (opened book));
    warnings = (job_of f ws (opened book)).warnings;
    calls = (job_of f ws (opened book)).calls;
  }

  abbrev pub by_image : Result ℕ ImageFault → AfterPosting
  by_image (Ok n) = done
  by_image (Err e) = left (no_book e)

  -- the posting of a file that is sound
  unfoldable pub posted_sound : AfterPosting
  posted_sound = by_image (image_read book)

  abbrev pub by_file : Told ℕ → AfterPosting
  by_file (fine n) = posted_sound
  by_file (refuse n vs) = left (answered (refuse n vs))

  -- THE POSTING OF A FILE: the file is checked, then the book is opened, and then the job is done
  unfoldable pub posted : AfterPosting
  posted = by_file (checked f.bytes.now)

  module _ {S : Type 0} (tell : S → ℕ → List Warning → S) (s : S) where
    abbrev pub heard_by_image : Result ℕ ImageFault → S
    heard_by_image (Ok n) = job_watched tell (table_of f) f.day ws (opened book) s
    heard_by_image (Err e) = s

    -- what a watch makes of it: it is told of the job, where there is one
    unfoldable pub sound_watched : S
    sound_watched = heard_by_image (image_read book)

    abbrev pub heard_by_file : Told ℕ → S
    heard_by_file (fine n) = sound_watched
    heard_by_file (refuse n vs) = s

    unfoldable pub posted_watched : S
    posted_watched = heard_by_file (checked f.bytes.now)
