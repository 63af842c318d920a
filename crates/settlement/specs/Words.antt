-- What the posting of a file comes to, in words. Assumes nothing.
use Rattle.std.specs.Prelude.{◌≡◌, ◌⊎◌, ℕ, ◌<◌, ◌≤◌, true, false, List, length, Ok, Err, None, slice_index}
use Rattle.terms.specs.Told.{fine, refuse}
use Rattle.terms.specs.Limits.{last_day, last_interval}
use Rattle.amounts.specs.Traces.{shares, entities}
use Rattle.intervals.specs.declared.warning.Warning.{Warning}
use Rattle.intervals.specs.Courses.{course, warning_rows}
use Rattle.runs.specs.Sheets.{rows_of}
use Rattle.detfile.specs.Files.{checked}
use Rattle.books.specs.declared.place.Place.{Place}
use Rattle.books.specs.Kept.{entry, holds}
use Rattle.books.specs.Laws.{Changed}
use Rattle.imagebook.specs.declared.fault.ImageFault.{ImageFault}
use Rattle.imagebook.specs.Images.{image_read, opened}
use Rattle.accounts.specs.Postings.{settled, billed}
use Rattle.settlement.specs.declared.dayfile.DayFile.{DayFile}
use Rattle.settlement.specs.declared.bills.Bills.{Bills}
use Rattle.settlement.specs.Tables.{table_of}
use Rattle.settlement.specs.Refusals.{answered, no_book}
use Rattle.settlement.specs.Postings.{no_bills, run_of, before_of, AfterPosting, posted}

-- each is from 0 to 255
abbrev pub AreBytes : List ℕ → Type 0
AreBytes bs = (i : ℕ) → slice_index bs i < 256

module _ (f : DayFile) (ws : List Warning) (book : List ℕ) where
  -- what there is to post: the file is sound, the bytes are a book's, the day is one, is not reserved and is held or finds a free place, the list
  -- of warnings has the rows that an interval may need, and the file stops no interval of the day
  pub record Ready : Type 0 where
    pub lines : ℕ
    pub sound : checked f.bytes.now ≡ fine lines
    pub days : ℕ
    pub read : image_read book ≡ Ok days
    pub day : f.day ≤ last_day
    pub unreserved : (entry (opened book) f.day).reserved ≡ false
    pub place : (holds (opened book) f.day ≡ true) ⊎ (length (opened book).held < (opened book).places)
    pub room : warning_rows ≤ length ws
    pub unstopped : (i : ℕ) → 1 ≤ i → i ≤ last_interval → (course (table_of f) f.day i).fault ≡ None

  -- the charged shares of the run, what the book had of the day, and each entity's total of the run less what the book had
  abbrev pub due : Bills
  due = record {
    charged = shares (run_of f);
    before = before_of (entry (opened book) f.day);
    rows = billed entities (rows_of entities (run_of f)) (entry (opened book) f.day).amounts no_bills;
  }

  -- what the book then keeps of the day: the run's totals, billed and not reserved
  abbrev pub billed_day : Place
  billed_day = settled f.day (rows_of entities (run_of f))

  abbrev pub after : AfterPosting
  after = posted f ws book

  -- THE POSTING OF A FILE, in words. A file that is refused is answered with its refusal, and else bytes that are no book's with their fault. It
  -- is posted just where all is ready, and billed then as it is due, and the new bytes mean a book that has the run's totals for the day, as billed
  -- and not reserved, and all other days as they were. Where it is not posted, the bytes are as they were
  pub record PostsFile : Type 0 where
    pub bad_file : (n : ℕ) (vs : List ℕ) → checked f.bytes.now ≡ refuse n vs → after.answer ≡ answered (refuse n vs)
    pub bad_book : (n : ℕ) (e : ImageFault) → checked f.bytes.now ≡ fine n → image_read book ≡ Err e → after.answer ≡ no_book e
    pub taken : Ready → after.answer ≡ answered (fine due)
    pub needed : (b : Bills) → after.answer ≡ answered (fine b) → Ready
    pub changed : (b : Bills) → after.answer ≡ answered (fine b) → Changed (opened book) f.day billed_day (opened after.book)
    pub refused : (n : ℕ) (vs : List ℕ) → after.answer ≡ answered (refuse n vs) → after.book ≡ book
    pub unread : (e : ImageFault) → after.answer ≡ no_book e → after.book ≡ book
