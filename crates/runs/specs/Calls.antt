-- A run by the calls that are made on it, accepted or refused, the newest first. Assumes nothing.
use Rattle.std.specs.Prelude.{◌≡◌, ℕ, zero, suc, Bool, true, false, List, [], ◌∷◌, length, ℤ, Some, None, Option, Result}
use Rattle.terms.specs.Sources.{Table}
use Rattle.rounding.specs.Rounds.{Lawful}
use Rattle.amounts.specs.Traces.{Trace}
use Rattle.intervals.specs.declared.fault.Fault.{Fault}
use Rattle.intervals.specs.declared.interval.Worked.{Worked}
use Rattle.intervals.specs.Courses.{course}
use Rattle.runs.specs.declared.refusal.IntervalRefusal.{IntervalRefusal}
use Rattle.runs.specs.declared.work.Work.{Work}
use Rattle.runs.specs.Turns.{told, answering, stopping, extended, barred_after}
use Rattle.runs.specs.Works.{WorkedBy, traced}

-- a call for an interval: which one is asked for, the table of the source handed to it, and how many rows its list of warnings has
pub record IntervalCall : Type 0 where
  pub interval : ℕ
  pub table : Table
  pub rows : ℕ

-- what calls come to: whether the run has stopped, and the tables of the accepted ones, the latest first
pub record Progress : Type 0 where
  pub stopped : Bool
  pub tables : List Table

-- an interval that is asked for is worked, or it stops the run
abbrev asked_by : Table → Progress → Option Fault → Progress
asked_by t p None = record { stopped = p.stopped; tables = t ∷ p.tables }
asked_by t p (Some f) = record { stopped = true; tables = p.tables }

-- and where there is a reason not to ask, nothing happens
abbrev called_by : ℕ → IntervalCall → Progress → Option IntervalRefusal → Progress
called_by y c p None = asked_by c.table p (course c.table y c.interval).fault
called_by y c p (Some e) = p

-- one call more, on a run of day y
abbrev pub called : ℕ → IntervalCall → Progress → Progress
called y c p = called_by y c p (barred_after p.stopped (length p.tables) c.interval c.rows)

-- WHAT A RUN OF CALLS COMES TO: a new run of day y, and then these calls
unfoldable pub progress : ℕ → List IntervalCall → Progress
progress y [] = record { stopped = false; tables = [] }
progress y (c ∷ cs) = called y c (progress y cs)

-- a run: its day, its rule, which keeps the law of a rule, and the calls for its intervals
pub record RunCalls : Type 0 where
  pub day : ℕ
  pub rule : ℤ → ℕ → ℤ
  pub lawful : Lawful rule
  pub calls : List IntervalCall

-- its trace
abbrev pub trace_of : RunCalls → Trace
trace_of r = traced r.day r.rule (progress r.day r.calls).tables

-- a run was opened for day y under a rule, these calls were made on it, and it has now stopped or not and has worked w
pub record CalledOn (y : ℕ) (rounded : ℤ → ℕ → ℤ) (cs : List IntervalCall) (stopped : Bool) (w : Work) : Type 0 where
  pub stops : stopped ≡ (progress y cs).stopped
  pub works : WorkedBy (traced y rounded (progress y cs).tables) w

-- one call more, by what a call for an interval says of its answer, of whether the run has stopped, and of what was worked
abbrev pub CalledMore : ℕ → (ℤ → ℕ → ℤ) → List IntervalCall → IntervalCall → Type 0
CalledMore y rounded cs c =
    (stopped : Bool) (w v : Work) (r : Result Worked IntervalRefusal) → CalledOn y rounded cs stopped w
    → told r ≡ answering rounded c.table stopped w c.interval c.rows
    → WorkedBy (traced y rounded (extended r c.table (progress y cs).tables)) v
    → CalledOn y rounded (c ∷ cs) (stopping c.table stopped w c.interval c.rows) v

-- calls for the intervals 1 to n in their order, over one source
unfoldable pub in_order : Table → ℕ → ℕ → List IntervalCall
in_order t rows zero = []
in_order t rows (suc n) = record { interval = suc n; table = t; rows = rows } ∷ in_order t rows n
