-- One call for an interval: what it answers and what it leaves. Assumes nothing.
use Rattle.std.specs.Prelude.{◌≡◌, ℕ, ◌+◌, Bool, true, cond, ◌&&◌, List, ◌∷◌, length, ℤ, Some, None, Ok, Err, Option, Result, ◌==◌, nat_lt}
use Rattle.terms.specs.Told.{Told, fine}
use Rattle.terms.specs.Sources.{Table}
use Rattle.terms.specs.Limits.{last_interval}
use Rattle.amounts.specs.Sums.{sum_to}
use Rattle.amounts.specs.Workings.{paid, charge, charged_shares}
use Rattle.amounts.specs.Tables.{working}
use Rattle.intervals.specs.declared.fault.Fault.{Fault}
use Rattle.intervals.specs.declared.interval.Worked.{Worked}
use Rattle.intervals.specs.declared.warning.Warning.{Warning}
use Rattle.intervals.specs.Stops.{stop_at}
use Rattle.intervals.specs.Courses.{course, warning_rows, in_front}
use Rattle.runs.specs.declared.refusal.IntervalRefusal.{IntervalRefusal}
use Rattle.runs.specs.declared.refusal.IntervalRefusal.TheVariants.{Stopped, NotDue, FewRows, Halted}
use Rattle.runs.specs.declared.work.Work.{Work}
use Rattle.runs.specs.Refusals.{numbered}
use Rattle.runs.specs.Works.{Grown}

abbrev pub told : Result Worked IntervalRefusal → Told Worked
told (Ok x) = fine x
told (Err e) = numbered e

-- the interval is the next one after n are worked; after the last none is
abbrev pub follows : ℕ → ℕ → Bool
follows n i = nat_lt n last_interval && i == n + 1

abbrev pub is_due : Work → ℕ → Bool
is_due w i = follows w.intervals i

-- why nothing is asked: in checking order, for a run that has stopped or not, with n intervals worked, an interval, and a list of so many rows
abbrev pub barred_after : Bool → ℕ → ℕ → ℕ → Option IntervalRefusal
barred_after stopped n i rows = cond stopped (Some Stopped) (cond (follows n i) (cond (nat_lt rows warning_rows) (Some FewRows) None) (Some NotDue))

abbrev pub barred : Bool → Work → ℕ → ℕ → Option IntervalRefusal
barred stopped w i rows = barred_after stopped w.intervals i rows

module _ (rounded : ℤ → ℕ → ℤ) (t : Table) where
  -- what a settled interval answers
  unfoldable pub worked : ℕ → ℕ → Worked
  worked y i = record {
    warnings = length (course t y i).rows;
    paid = paid 128 (working t y i rounded);
    charges = sum_to 64 (charge rounded 128 (working t y i rounded));
    charged = charged_shares 64 (working t y i rounded);
  }

  abbrev answer_by : ℕ → ℕ → Option Fault → Told Worked
  answer_by y i None = fine (worked y i)
  answer_by y i (Some f) = numbered (Halted (stop_at y i (length (course t y i).rows) f))

  abbrev answer_at : ℕ → ℕ → Option IntervalRefusal → Told Worked
  answer_at y i None = answer_by y i (course t y i).fault
  answer_at y i (Some e) = numbered e

  -- THE ANSWER of a call
  abbrev pub answering : Bool → Work → ℕ → ℕ → Told Worked
  answering stopped w i rows = answer_at w.day i (barred stopped w i rows)

abbrev warned_at : Table → ℕ → ℕ → List Warning → Option IntervalRefusal → List Warning
warned_at t y i ws None = in_front (course t y i).rows ws
warned_at t y i ws (Some e) = ws

-- the list of warnings after a call: the rows written stand in front, the others as they were
abbrev pub warned : Table → Bool → Work → ℕ → List Warning → List Warning
warned t stopped w i ws = warned_at t w.day i ws (barred stopped w i (length ws))

abbrev halts : Bool → Option Fault → Bool
halts stopped None = stopped
halts stopped (Some f) = true

abbrev stopping_at : Table → ℕ → ℕ → Bool → Option IntervalRefusal → Bool
stopping_at t y i stopped None = halts stopped (course t y i).fault
stopping_at t y i stopped (Some e) = stopped

-- whether the run has stopped after a call
abbrev pub stopping : Table → Bool → Work → ℕ → ℕ → Bool
stopping t stopped w i rows = stopping_at t w.day i stopped (barred stopped w i rows)

-- the work after a call: one interval more where it is accepted, else as it was
abbrev pub Moves : (ℤ → ℕ → ℤ) → Table → Result Worked IntervalRefusal → Work → Work → Type 0
Moves rounded t (Ok x) w v = Grown rounded t w v
Moves rounded t (Err e) w v = v ≡ w

-- the tables of the accepted intervals after a call, the latest first
abbrev pub extended : Result Worked IntervalRefusal → Table → List Table → List Table
extended (Ok x) t ts = t ∷ ts
extended (Err e) t ts = ts
