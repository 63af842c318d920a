-- All intervals of a day, worked one after the other over one source. Assumes nothing.
use Rattle.std.specs.Prelude.{ℕ, zero, suc, cond, List, [], ◌∷◌, length, ℤ, Some, None, Ok, Err, Option, Result, nat_lt}
use Rattle.terms.specs.Told.{Told, fine, refuse}
use Rattle.terms.specs.Limits.{last_interval}
use Rattle.terms.specs.Sources.{Table}
use Rattle.amounts.specs.Traces.{Trace}
use Rattle.intervals.specs.declared.fault.Fault.{Fault}
use Rattle.intervals.specs.declared.warning.Warning.{Warning}
use Rattle.intervals.specs.Stops.{stop_at}
use Rattle.intervals.specs.Courses.{warning_rows, course, in_front}
use Rattle.runs.specs.declared.refusal.IntervalRefusal.{IntervalRefusal}
use Rattle.runs.specs.declared.refusal.IntervalRefusal.TheVariants.{FewRows, Halted}
use Rattle.runs.specs.Refusals.{numbered}
use Rattle.runs.specs.Works.{traced}

-- whether all is worked so far, or what an interval was refused with; and the list of warnings
pub record Walk : Type 0 where
  pub told : Told (Unit {0})
  pub warnings : List Warning

abbrev told_by : ℕ → ℕ → ℕ → Option Fault → Told (Unit {0})
told_by y i n None = fine tt
told_by y i n (Some f) = numbered (Halted (stop_at y i n f))

-- what the interval that is due ends with: it is refused where the list has too few rows, and where something that is asked stops the run
abbrev pub turn : Table → ℕ → ℕ → ℕ → Told (Unit {0})
turn t y i rows = cond (nat_lt rows warning_rows) (numbered FewRows) (told_by y i (length (course t y i).rows) (course t y i).fault)

-- its warning rows stand in front of the list, and the others stay
abbrev pub noted : Table → ℕ → ℕ → List Warning → List Warning
noted t y i ws = cond (nat_lt (length ws) warning_rows) ws (in_front (course t y i).rows ws)

-- after a refused interval nothing more is worked
abbrev pub step_by : Table → ℕ → ℕ → Walk → Told (Unit {0}) → Walk
step_by t y i w (fine x) = record { told = turn t y i (length w.warnings); warnings = noted t y i w.warnings }
step_by t y i w (refuse n vs) = w

abbrev pub step : Table → ℕ → ℕ → Walk → Walk
step t y i w = step_by t y i w w.told

-- the first n intervals of day y, over a source with this table
unfoldable pub walked : Table → ℕ → List Warning → ℕ → Walk
walked t y ws zero = record { told = fine tt; warnings = ws }
walked t y ws (suc n) = step t y (suc n) (walked t y ws n)

-- a watch that is told by `tell` hears of an interval that was worked, with its warnings, and not of one that was refused
abbrev pub heard : {S : Type 0} → (S → ℕ → List Warning → S) → ℕ → List Warning → S → Told (Unit {0}) → S
heard tell i rows s (fine x) = tell s i rows
heard tell i rows s (refuse n vs) = s

-- what a watch makes of the first n intervals: it is told of each that was worked, in their order, once, with just that interval's warnings
unfoldable pub watched : {S : Type 0} → (S → ℕ → List Warning → S) → Table → ℕ → List Warning → S → ℕ → S
watched tell t y ws s zero = s
watched tell t y ws s (suc n) = heard tell (suc n) (course t y (suc n)).rows (watched tell t y ws s n) (walked t y ws (suc n)).told

abbrev pub counted : Told (Unit {0}) → ℕ → ℕ
counted (fine x) n = suc n
counted (refuse a vs) n = n

-- how many of the first n intervals are worked
unfoldable pub reached : Table → ℕ → List Warning → ℕ → ℕ
reached t y ws zero = 0
reached t y ws (suc n) = counted (walked t y ws (suc n)).told (reached t y ws n)

-- one table for each of n intervals
unfoldable pub repeated : ℕ → Table → List Table
repeated zero t = []
repeated (suc n) t = t ∷ repeated n t

-- the trace of a run of day y, worked in n intervals over one source
abbrev pub run_over : ℕ → (ℤ → ℕ → ℤ) → ℕ → Table → Trace
run_over y rounded n t = traced y rounded (repeated n t)

abbrev pub day_told : Result (Unit {0}) IntervalRefusal → Told (Unit {0})
day_told (Ok x) = fine tt
day_told (Err e) = numbered e

-- the trace of a run of day y, as far as its intervals are worked
abbrev pub run_through : ℕ → (ℤ → ℕ → ℤ) → Table → List Warning → Trace
run_through y rounded t ws = run_over y rounded (reached t y ws last_interval) t
