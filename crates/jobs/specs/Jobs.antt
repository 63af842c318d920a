-- A job: a day is reserved, worked over a source, and posted. Assumes nothing.
use Rattle.std.specs.Prelude.{ℕ, false, List, [], ◌∷◌, take, ℤ}
use Rattle.terms.specs.Told.{Told, fine, refuse}
use Rattle.terms.specs.Sources.{Table}
use Rattle.terms.specs.Limits.{last_interval}
use Rattle.amounts.specs.declared.row.Amounts.{Amounts}
use Rattle.amounts.specs.Traces.{entities}
use Rattle.intervals.specs.declared.warning.Warning.{Warning}
use Rattle.runs.specs.Sheets.{said_of}
use Rattle.books.specs.Kept.{Kept}
use Rattle.books.specs.Calls.{reserving, lifting}
use Rattle.books.specs.Refusals.{told as book_told}
use Rattle.accounts.specs.Refusals.{told as post_told}
use Rattle.accounts.specs.Slips.{given}
use Rattle.accounts.specs.Postings.{posting}
use Rattle.accounts.specs.Histories.{History, reserves, withdraws, posts}
use Rattle.jobs.specs.Days.{walked, watched, run_over}

-- a job's answer, what is kept after it, the bill rows and the list of warnings after it, and what was called on the book, the newest call first
pub record Done : Type 0 where
  pub answer : Told ℕ
  pub kept : Kept
  pub bills : List Amounts
  pub warnings : List Warning
  pub calls : History

module _ (rounded : ℤ → ℕ → ℤ) (t : Table) (d : ℕ) (bills : List Amounts) (ws : List Warning) where
  -- the day as it ended, all intervals worked or one refused; the book keeps k, where the day was reserved
  abbrev ended_by : Kept → Told (Unit {0}) → Done
  ended_by k (fine x) = record {
    answer = post_told (posting k d (said_of (run_over d rounded last_interval t)) bills).answer;
    kept = (posting k d (said_of (run_over d rounded last_interval t)) bills).after;
    bills = (posting k d (said_of (run_over d rounded last_interval t)) bills).bills;
    warnings = (walked t d ws last_interval).warnings;
    calls = posts d (run_over d rounded last_interval t) (take entities (posting k d (said_of (run_over d rounded last_interval t)) bills).bills) (post_told (posting k d (said_of (run_over d rounded last_interval t)) bills).answer) ∷ reserves d (fine d) ∷ [];
  }
  ended_by k (refuse n vs) = record {
    answer = refuse n vs;
    kept = (lifting k d false).after;
    bills = bills;
    warnings = (walked t d ws last_interval).warnings;
    calls = withdraws d (book_told (lifting k d false).answer) ∷ reserves d (fine d) ∷ [];
  }

  abbrev pub ended : Kept → Done
  ended k = ended_by k (walked t d ws last_interval).told

  abbrev job_by : Kept → Told ℕ → Done
  job_by k (fine x) = ended (reserving k d).after
  job_by k (refuse n vs) = record { answer = refuse n vs; kept = (reserving k d).after; bills = bills; warnings = ws; calls = reserves d (refuse n vs) ∷ [] }

  -- A JOB on a book that keeps k
  unfoldable pub job : Kept → Done
  job k = job_by k (given d (reserving k d).answer)

abbrev job_watched_by : {S : Type 0} → (S → ℕ → List Warning → S) → Table → ℕ → List Warning → S → Told ℕ → S
job_watched_by tell t d ws s (fine x) = watched tell t d ws s last_interval
job_watched_by tell t d ws s (refuse n vs) = s

-- what a watch makes of a job on a book that keeps k: it is told of the day's intervals where the day was reserved, and else of none
unfoldable pub job_watched : {S : Type 0} → (S → ℕ → List Warning → S) → Table → ℕ → List Warning → Kept → S → S
job_watched tell t d ws k s = job_watched_by tell t d ws s (given d (reserving k d).answer)
