-- What a line gives lies in its ranges.
use Rattle.std.proofs.Common.{◌≡◌, ℕ, ◌≤◌, List, ℤ, Some, Ok, Err, Result, unsigned_abs, refl, subst, arith}
use Rattle.terms.specs.Limits.{last_unit, last_day, most_stored}
use Rattle.terms.specs.declared.determinant.Determinant.{Determinant}
use Rattle.figures.specs.Tokens.{Seen, nothing, every, number}
use Rattle.figures.specs.declared.numbers.Fault.{Fault}
use Rattle.detfile.specs.Keys.{then, ranged, interval_by, key_by}
use Rattle.detfile.specs.Values.{given_by}
use Rattle.detfile.specs.declared.key.Interval.{Interval}
use Rattle.detfile.specs.declared.key.Interval.TheVariants.{Every, At}
use Rattle.detfile.specs.declared.key.Key.{Key}
use Rattle.daytable.specs.Cuts.{InDay}

-- a number that a field gives
pub given_small : (k : Determinant) (s : Seen) (z : ℤ) → given_by k s ≡ Ok (Some z) → unsigned_abs z ≤ most_stored
given_small k nothing z e = cc
given_small k every z e = cc
given_small k (number part) z e = grind arith

ranged_in : (low high n : ℕ) (bs : List ℕ) → ranged low high bs ≡ Ok n → (low ≤ n) × (n ≤ high)
ranged_in low high n bs e = grind arith

interval_in : (s : Seen) (i : Interval) → interval_by s ≡ Ok i → InDay i
interval_in nothing i e = grind arith
interval_in every i e = grind arith
interval_in (number part) Every e = tt
interval_in (number part) (At n) e = grind arith

-- what is read first and what is read with it
then_parts : {X Y : Type 0} (r : Result X Fault) (f : X → Result Y Fault) (y : Y) → then r f ≡ Ok y → (x : X) × (r ≡ Ok x) × (f x ≡ Ok y)
then_parts (Err e) f y h = cc
then_parts (Ok x) f y h = (x, refl, h)

-- the unit and the interval of a key lie in their ranges
abbrev Ranged : Result Key Fault → Type 0
Ranged (Err e) = Unit {0}
Ranged (Ok k) = (k.unit ≤ last_unit) × InDay k.interval

pub key_in : (day unit : List ℕ) (int : Seen) (k : Key) → key_by day unit int ≡ Ok k → (k.unit ≤ last_unit) × InDay k.interval
key_in day unit int k e =
    let d = then_parts (ranged 0 last_day day) _ k e in
    let u = then_parts (ranged 0 last_unit unit) _ k d.2 in
    let i = then_parts (interval_by int) _ k u.2 in
    let within = (ranged_in 0 last_unit u.0 unit u.1).1 in
    let placed = interval_in int i.0 i.1 in
    subst Ranged i.2 (within, placed)
