-- The check of a run's day. Assumes nothing.
use Rattle.std.specs.Prelude.{ℕ, cond, Ok, Err, Result, nat_le}
use Rattle.terms.specs.Told.{Told, fine}
use Rattle.terms.specs.Limits.{last_day}
use Rattle.runs.specs.declared.day.RunDay.{RunDay}
use Rattle.runs.specs.declared.refusal.DayRefusal.{DayRefusal}
use Rattle.runs.specs.declared.refusal.DayRefusal.TheVariants.{OutOfRange}
use Rattle.runs.specs.Refusals.{day_numbered}

-- the day, or the refusal
abbrev pub day_told : Result RunDay DayRefusal → Told ℕ
day_told (Ok d) = fine d.day
day_told (Err e) = day_numbered e

abbrev pub checking : ℕ → Told ℕ
checking y = cond (nat_le y last_day) (fine y) (day_numbered OutOfRange)
