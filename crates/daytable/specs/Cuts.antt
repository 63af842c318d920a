-- What the table of a day answers. Assumes nothing.
use Rattle.std.specs.Prelude.{ℕ, ◌+◌, ◌-◌, ◌*◌, ◌≤◌, cond, ◌&&◌, List, ℤ, Some, None, Option, ◌==◌, slice_index_or}
use Rattle.terms.specs.Limits.{last_determinant, last_unit, last_interval, inside}
use Rattle.terms.specs.Sources.{Table}
use Rattle.terms.specs.declared.answer.Answer.{Answer}
use Rattle.terms.specs.declared.answer.Answer.TheVariants.{NoCut, Null, Figure}
use Rattle.detfile.specs.declared.key.Interval.{Interval}
use Rattle.detfile.specs.declared.key.Interval.TheVariants.{Every, At}
use Rattle.daytable.specs.declared.cut.Cut.{Cut}
use Rattle.daytable.specs.declared.cut.Cut.TheVariants.{Nothing, Given}

-- an interval is one of the day's
abbrev pub InDay : Interval → Type 0
InDay Every = Unit {0}
InDay (At n) = (1 ≤ n) × (n ≤ last_interval)

abbrev pub figure_says : Option ℤ → Answer
figure_says None = Null
figure_says (Some z) = Figure z

-- what a cut answers at an interval
abbrev pub cut_says : Cut → ℕ → Answer
cut_says Nothing i = NoCut
cut_says (Given zs) i = figure_says (slice_index_or zs (i - 1) None)

-- where the cut of a determinant and unit stands
abbrev pub place : ℕ → ℕ → ℕ
place d u = (d - 1) * (last_unit + 1) + u

-- one cut for each determinant and unit
abbrev pub cut_count : ℕ
cut_count = last_determinant * (last_unit + 1)

-- what the cuts answer
abbrev pub cuts_say : List Cut → ℕ → ℕ → ℕ → Answer
cuts_say cs d u i = cut_says (slice_index_or cs (place d u) Nothing) i

-- what the table answers that has the cuts of one day
abbrev pub tabled : ℕ → List Cut → Table
tabled day cs d u y i = cond (inside d u y i && y == day) (cuts_say cs d u i) NoCut

-- a determinant, a unit and an interval that there is room for
pub record Roomy (d u i : ℕ) : Type 0 where
  pub from_determinant : 1 ≤ d
  pub to_determinant : d ≤ last_determinant
  pub to_unit : u ≤ last_unit
  pub from_interval : 1 ≤ i
  pub to_interval : i ≤ last_interval
