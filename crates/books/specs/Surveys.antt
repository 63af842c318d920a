-- Whether places that stand as they were left are those of a book. Assumes nothing.
use Rattle.std.specs.Prelude.{◌≡◌, ◌<◌, ◌≤◌, length, ℕ, suc, Bool, cond, ◌&&◌, List, [], ◌∷◌, ◌==◌, nat_le, unsigned_abs, Some, None, Ok, Err, Option, Result}
use Rattle.std.specs.List.{list_all}
use Rattle.terms.specs.Limits.{last_day}
use Rattle.amounts.specs.declared.row.Amounts.{Amounts}
use Rattle.books.specs.declared.place.Place.{Place}
use Rattle.books.specs.declared.flaw.Wrong.{Wrong}
use Rattle.books.specs.declared.flaw.Wrong.TheVariants.{AfterFree, NotRising, Amounts as OfEntity, NotFree}
use Rattle.books.specs.declared.flaw.Flaw.{Flaw}
use Rattle.books.specs.declared.survey.Front.{Front}
use Rattle.books.specs.Places.{at, is_taken, in_range}

abbrev pub is_none : Amounts → Bool
is_none a = unsigned_abs a.reactive == 0 && (unsigned_abs a.held == 0 && unsigned_abs a.load == 0)

-- day 0 and no amounts
abbrev pub is_bare : Place → Bool
is_bare x = x.day == 0 && list_all is_none x.amounts

-- the first entity, from q on, whose amounts lie outside their range
unfoldable pub first_out : ℕ → List Amounts → Option ℕ
first_out q [] = None
first_out q (a ∷ more) = cond (in_range a) (first_out (suc q) more) (Some q)

abbrev ranged_from : Option ℕ → Option Wrong
ranged_from None = None
ranged_from (Some q) = Some (OfEntity q)

-- what is wrong with a place that has a mark: no place before may be free, and the day must be above those before
abbrev pub taken_fault : Front → ℕ → Place → Option Wrong
taken_fault f i x = cond (f.used == i) (cond (nat_le f.least x.day) (ranged_from (first_out 0 x.amounts)) (Some NotRising)) (Some AfterFree)

abbrev pub place_fault : Front → ℕ → Place → Option Wrong
place_fault f i x = cond (is_taken x) (taken_fault f i x) (cond (is_bare x) None (Some NotFree))

-- a place that is not at fault: one that has a mark is in use
abbrev pub passed : Front → Place → Front
passed f x = cond (is_taken x) (record { used = suc f.used; least = suc x.day }) f

abbrev step_by : Option Wrong → Front → ℕ → Place → Result Front Flaw
step_by None f i x = Ok (passed f x)
step_by (Some w) f i x = Err (record { index = i; wrong = w })

unfoldable pub step : Front → ℕ → Place → Result Front Flaw
step f i x = step_by (place_fault f i x) f i x

abbrev pub start : Front
start = record { used = 0; least = 0 }

-- the places from the i-th on
unfoldable pub walk : ℕ → Result Front Flaw → List Place → Result Front Flaw
walk i (Err e) xs = Err e
walk i (Ok f) [] = Ok f
walk i (Ok f) (x ∷ xs) = walk (suc i) (step f i x) xs

abbrev pub used_of : Result Front Flaw → Result ℕ Flaw
used_of (Ok f) = Ok f.used
used_of (Err e) = Err e

-- what a place in memory is, whatever it says
pub record Shaped (x : Place) : Type 0 where
  pub day : x.day ≤ last_day
  pub long : length x.amounts ≡ 64

abbrev pub Memory : List Place → Type 0
Memory xs = (q : ℕ) → q < length xs → Shaped (at xs q)

-- THE SURVEY: how many days are held, or the first fault
unfoldable pub surveyed : List Place → Result ℕ Flaw
surveyed xs = used_of (walk 0 (Ok start) xs)
