-- The answers of a run's calls: each refusal's number and values. Assumes nothing.
use Rattle.std.specs.Prelude.{ℕ, []}
use Rattle.terms.specs.Told.{Told, fine, refuse}
use Rattle.intervals.specs.Stops.{numbered as stop_numbered}
use Rattle.runs.specs.declared.refusal.DayRefusal.{DayRefusal}
use Rattle.runs.specs.declared.refusal.DayRefusal.TheVariants.{OutOfRange}
use Rattle.runs.specs.declared.refusal.IntervalRefusal.{IntervalRefusal}
use Rattle.runs.specs.declared.refusal.IntervalRefusal.TheVariants.{Stopped, NotDue, FewRows, Halted}

abbrev pub day_numbered : {X : Type 0} → DayRefusal → Told X
day_numbered OutOfRange = refuse 7 []

abbrev answer_number : Told ℕ → ℕ
answer_number (fine x) = 0
answer_number (refuse a vs) = a

abbrev pub day_number : DayRefusal → ℕ
day_number e = answer_number (day_numbered e)

abbrev pub numbered : {X : Type 0} → IntervalRefusal → Told X
numbered Stopped = refuse 11 []
numbered NotDue = refuse 12 []
numbered FewRows = refuse 13 []
numbered (Halted s) = stop_numbered s

abbrev pub interval_number : IntervalRefusal → ℕ
interval_number e = answer_number (numbered e)
