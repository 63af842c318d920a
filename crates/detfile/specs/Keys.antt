-- What the first three fields of a value line say. Assumes nothing.
use Rattle.std.specs.Prelude.{ℕ, Bool, true, cond, ◌&&◌, List, Some, None, Ok, Err, Option, Result, ◌==◌, nat_le}
use Rattle.terms.specs.Limits.{last_unit, last_day, last_interval}
use Rattle.figures.specs.Cuts.{first_field, past_field}
use Rattle.figures.specs.Numbers.{counted}
use Rattle.figures.specs.Tokens.{Seen, nothing, every, number, token_of}
use Rattle.figures.specs.declared.numbers.Fault.{Fault}
use Rattle.figures.specs.declared.numbers.Fault.TheVariants.{Form}
use Rattle.detfile.specs.declared.key.Interval.{Interval}
use Rattle.detfile.specs.declared.key.Interval.TheVariants.{Every, At}
use Rattle.detfile.specs.declared.key.Key.{Key}

-- go on where there was no fault
abbrev pub then : {E X Y : Type 0} → Result X E → (X → Result Y E) → Result Y E
then (Err e) f = Err e
then (Ok x) f = f x

abbrev ranged_by : ℕ → ℕ → Option ℕ → Result ℕ Fault
ranged_by low high None = Err Form
ranged_by low high (Some n) = cond (nat_le low n && nat_le n high) (Ok n) (Err Form)

-- one to five digits, from low to high
abbrev pub ranged : ℕ → ℕ → List ℕ → Result ℕ Fault
ranged low high bs = ranged_by low high (counted 5 bs)

-- a star for every interval, or the number of one
abbrev pub interval_by : Seen → Result Interval Fault
interval_by nothing = Err Form
interval_by every = Ok Every
interval_by (number part) = then (ranged 1 last_interval part) (λ n. Ok (At n))

-- day, unit and interval, the first that is at fault first
abbrev pub key_by : List ℕ → List ℕ → Seen → Result Key Fault
key_by day unit int =
    then (ranged 0 last_day day) (λ d.
    then (ranged 0 last_unit unit) (λ u.
    then (interval_by int) (λ i.
    Ok (record { day = d; unit = u; interval = i }))))

abbrev pub key_of : List ℕ → Result Key Fault
key_of bs = key_by (first_field bs) (first_field (past_field bs)) (token_of (first_field (past_field (past_field bs))))

-- the fields after the third
abbrev pub values_part : List ℕ → List ℕ
values_part bs = past_field (past_field (past_field bs))

abbrev pub covers_of : Interval → ℕ → Bool
covers_of Every i = true
covers_of (At n) i = n == i
