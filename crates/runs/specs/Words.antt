-- One call for an interval, in words. Assumes nothing.
use Rattle.std.specs.Prelude.{◌≡◌, ℕ, ◌+◌, ◌<◌, Bool, true, false, ◌↔◌, List, length, take, Some, None, Ok, Err, Result}
use Rattle.terms.specs.Limits.{last_interval}
use Rattle.terms.specs.Sources.{Table}
use Rattle.intervals.specs.declared.fault.Stop.{Stop}
use Rattle.intervals.specs.declared.interval.Worked.{Worked}
use Rattle.intervals.specs.declared.warning.Warning.{Warning}
use Rattle.intervals.specs.Courses.{warning_rows}
use Rattle.intervals.specs.Words.{Asking}
use Rattle.runs.specs.declared.refusal.IntervalRefusal.{IntervalRefusal}
use Rattle.runs.specs.declared.refusal.IntervalRefusal.TheVariants.{Stopped, NotDue, FewRows, Halted}
use Rattle.runs.specs.declared.work.Work.{Work}

-- the interval is the next one of the day
pub record IsDue (w : Work) (i : ℕ) : Type 0 where
  pub left : w.intervals < last_interval
  pub next : i ≡ w.intervals + 1

-- A CALL FOR AN INTERVAL, in words, of its answer r and the list of warnings before and after. It is answered 11 just where the run has stopped; 12
-- just where it has not and the interval is not the next one; 13 just where it is and the list has too few rows. Else the interval is asked: the
-- answer tells of the asking, with the interval's day and number where it stops, and the rows that it counts stand in front of the list
pub record Turn (t : Table) (stopped : Bool) (w : Work) (i : ℕ) (before after : List Warning) (r : Result Worked IntervalRefusal) : Type 0 where
  pub halted_before : (r ≡ Err Stopped) ↔ (stopped ≡ true)
  pub not_due : (r ≡ Err NotDue) ↔ ((stopped ≡ false) × (IsDue w i → ⊥))
  pub few_rows : (r ≡ Err FewRows) ↔ ((stopped ≡ false) × IsDue w i × (length before < warning_rows))
  pub worked : (x : Worked) → r ≡ Ok x → Asking t w.day i (record { rows = take x.warnings after; fault = None })
  pub stops : (s : Stop) → r ≡ Err (Halted s) → Asking t w.day i (record { rows = take s.warnings after; fault = Some s.fault })
  pub named : (s : Stop) → r ≡ Err (Halted s) → s.slot ≡ record { day = w.day; interval = i }
