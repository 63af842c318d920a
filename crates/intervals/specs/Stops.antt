-- Why an interval stops: each cause's number, and what a stop names. Assumes nothing.
use Rattle.std.specs.Prelude.{ℕ, [], ◌∷◌}
use Rattle.terms.specs.Told.{Told, refuse}
use Rattle.terms.specs.Determinants.{number_of}
use Rattle.intervals.specs.declared.fault.Cause.{Cause}
use Rattle.intervals.specs.declared.fault.Cause.TheVariants.{Missing, OutOfRange, Shares}
use Rattle.intervals.specs.declared.fault.Fault.{Fault}
use Rattle.intervals.specs.declared.fault.Stop.{Stop}

abbrev pub cause_number : Cause → ℕ
cause_number Missing = 14
cause_number OutOfRange = 15
cause_number Shares = 16

abbrev pub stop_at : ℕ → ℕ → ℕ → Fault → Stop
stop_at y i n f = record { fault = f; slot = record { day = y; interval = i }; warnings = n }

-- the values are determinant, unit, day, interval and the number of warning rows written
abbrev pub numbered : {X : Type 0} → Stop → Told X
numbered s = refuse (cause_number s.fault.cause) (number_of s.fault.determinant ∷ s.fault.unit ∷ s.slot.day ∷ s.slot.interval ∷ s.warnings ∷ [])
