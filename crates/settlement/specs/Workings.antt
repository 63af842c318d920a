-- What the working of a file's day comes to. Assumes nothing.
use Rattle.std.specs.Prelude.{ℕ, List, ℤ, Ok, Err, Result}
use Rattle.terms.specs.Told.{Told, fine, refuse}
use Rattle.terms.specs.Limits.{last_interval}
use Rattle.amounts.specs.Traces.{Trace}
use Rattle.intervals.specs.declared.warning.Warning.{Warning}
use Rattle.detfile.specs.Files.{checked}
use Rattle.runs.specs.Days.{checking}
use Rattle.runs.specs.Sheets.{Said, said, said_of}
use Rattle.jobs.specs.declared.days.DayRun.{DayRun}
use Rattle.jobs.specs.Days.{walked, watched, run_through, day_told}
use Rattle.settlement.specs.declared.dayfile.DayFile.{DayFile}
use Rattle.settlement.specs.declared.refusal.Unworked.{Unworked}
use Rattle.settlement.specs.Refusals.{unworked}
use Rattle.settlement.specs.Tables.{table_of}

-- what the sheet of a day says, as far as its intervals were worked; and whether all were, or what the next one was refused with
pub record Worked : Type 0 where
  pub sheet : Said
  pub ended : Told (Unit {0})

abbrev pub run_worked : DayRun → Worked
run_worked r = record { sheet = said r.sheet.work; ended = day_told r.ended }

abbrev pub working_told : Result DayRun Unworked → Told Worked
working_told (Ok r) = fine (run_worked r)
working_told (Err e) = unworked e

-- after a working: how it ended, and the list of warnings
pub record AfterWorking : Type 0 where
  pub answer : Told Worked
  pub warnings : List Warning

module _ (f : DayFile) (ws : List Warning) where
  module _ (rounded : ℤ → ℕ → ℤ) where
    -- the trace of the run, over the file's own table, as far as it goes
    abbrev pub run_worked_of : Trace
    run_worked_of = run_through f.day rounded (table_of f) ws

    abbrev pub left : Told Worked → AfterWorking
    left a = record { answer = a; warnings = ws }

    abbrev pub done : AfterWorking
    done = record {
      answer = fine (record { sheet = said_of run_worked_of; ended = (walked (table_of f) f.day ws last_interval).told });
      warnings = (walked (table_of f) f.day ws last_interval).warnings;
    }

    abbrev pub by_day : Told ℕ → AfterWorking
    by_day (fine y) = done
    by_day (refuse n vs) = left (refuse n vs)

    abbrev pub by_file : Told ℕ → AfterWorking
    by_file (fine n) = by_day (checking f.day)
    by_file (refuse n vs) = left (refuse n vs)

    -- THE WORKING OF A FILE: the file is checked, then the day, and then the day is worked under the rule
    unfoldable pub worked : AfterWorking
    worked = by_file (checked f.bytes.now)

  module _ {S : Type 0} (tell : S → ℕ → List Warning → S) (s : S) where
    abbrev pub heard_by_day : Told ℕ → S
    heard_by_day (fine y) = watched tell (table_of f) f.day ws s last_interval
    heard_by_day (refuse n vs) = s

    abbrev pub heard_by_file : Told ℕ → S
    heard_by_file (fine n) = heard_by_day (checking f.day)
    heard_by_file (refuse n vs) = s

    -- what a watch makes of it: it is told of the intervals that are worked
    unfoldable pub worked_watched : S
    worked_watched = heard_by_file (checked f.bytes.now)
