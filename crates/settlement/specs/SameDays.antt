-- Sources that answer alike about one day, and what comes to the same over them. Assumes nothing.
use Rattle.std.specs.Prelude.{◌≡◌, ℕ, List, ◌++◌, length, ℤ}
use Rattle.terms.specs.Sources.{Table}
use Rattle.amounts.specs.declared.row.Amounts.{Amounts}
use Rattle.amounts.specs.Traces.{Trace, amount, shares, Accepted}
use Rattle.intervals.specs.declared.warning.Warning.{Warning}
use Rattle.runs.specs.Works.{FaultlessOver}
use Rattle.books.specs.Kept.{Kept}
use Rattle.accounts.specs.Histories.{History, Accounts}
use Rattle.jobs.specs.Days.{walked, watched, reached, run_over}
use Rattle.jobs.specs.Jobs.{Done, job, job_watched}

-- two tables answer alike, whatever determinant, unit and interval of day y is asked about
pub record SameDay (y : ℕ) (t u : Table) : Type 0 where
  pub agree : (d n i : ℕ) → t d n y i ≡ u d n y i

-- two runs come to the same by the formulas, and the second is accepted and free of faults where the first is
pub record SameRun (a b : Trace) : Type 0 where
  pub day : a.day ≡ b.day
  pub intervals : length a.tables ≡ length b.tables
  pub amounts : (q : ℕ) → amount a q ≡ amount b q
  pub charged : shares a ≡ shares b
  pub accepted : Accepted a → Accepted b
  pub faultless : FaultlessOver a.day a.tables → FaultlessOver b.day b.tables

-- two jobs come to the same, and the law of accounts holds with the calls of the second where it holds with those of the first
pub record SameDone (a b : Done) : Type 0 where
  pub answer : a.answer ≡ b.answer
  pub kept : a.kept ≡ b.kept
  pub bills : a.bills ≡ b.bills
  pub warnings : a.warnings ≡ b.warnings
  pub law : (h : History) (k : Kept) → Accounts (a.calls ++ h) k → Accounts (b.calls ++ h) k

module _ (d : ℕ) (t u : Table) where
  -- runs of n intervals of day d, under any rule
  abbrev pub SameRuns : Type 0
  SameRuns = (rounded : ℤ → ℕ → ℤ) (n : ℕ) → SameRun (run_over d rounded n t) (run_over d rounded n u)

  -- the first n intervals of day d, worked until one is refused: how many are worked, how they end, and the list of warnings
  pub record SameWalks : Type 0 where
    pub count : (ws : List Warning) (n : ℕ) → reached t d ws n ≡ reached u d ws n
    pub walk : (ws : List Warning) (n : ℕ) → walked t d ws n ≡ walked u d ws n

  -- jobs for day d, under any rule and on any book
  abbrev pub SameJobs : Type 0
  SameJobs = (rounded : ℤ → ℕ → ℤ) (bills : List Amounts) (ws : List Warning) (k : Kept) → SameDone (job rounded t d bills ws k) (job rounded u d bills ws k)

  -- what a watch that is told by `tell` makes of such intervals and of such a job
  pub record SameWatched {S : Type 0} (tell : S → ℕ → List Warning → S) : Type 0 where
    pub intervals : (ws : List Warning) (s : S) (n : ℕ) → watched tell t d ws s n ≡ watched tell u d ws s n
    pub job : (ws : List Warning) (k : Kept) (s : S) → job_watched tell t d ws k s ≡ job_watched tell u d ws k s
