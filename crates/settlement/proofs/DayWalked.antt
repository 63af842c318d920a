-- The walk through a day's intervals depends on the source's answers about that day alone.
use Rattle.std.proofs.Common.{◌≡◌, ℕ, zero, suc, List, length, refl, ap, ap₂}
use Rattle.terms.specs.Sources.{Table}
use Rattle.terms.specs.Told.{Told, fine, refuse}
use Rattle.intervals.specs.declared.warning.Warning.{Warning}
use Rattle.jobs.specs.Days.{turn, noted, step, walked, watched, counted, reached}
use Rattle.settlement.specs.SameDays.{SameDay, SameWalks}
use Rattle.settlement.proofs.DayAsked.{course_same}

module _ (y : ℕ) (t u : Table) (same : SameDay y t u) where
  turn_same : (i rows : ℕ) → turn t y i rows ≡ turn u y i rows
  turn_same i rows = rw (course_same y t u same i) refl

  noted_same : (i : ℕ) (ws : List Warning) → noted t y i ws ≡ noted u y i ws
  noted_same i ws = rw (course_same y t u same i) refl

  step_same : (i : ℕ) (a : Told (Unit {0})) (ws : List Warning) → step t y i (record { told = a; warnings = ws }) ≡ step u y i (record { told = a; warnings = ws })
  step_same i (fine x) ws = λ j. record { told = turn_same i (length ws) j; warnings = noted_same i ws j }
  step_same i (refuse n vs) ws = refl

  walked_same : (ws : List Warning) (n : ℕ) → walked t y ws n ≡ walked u y ws n
  unfolding walked
  walked_same ws zero = refl
  walked_same ws (suc n) = rw (walked_same ws n) (step_same (suc n) (walked u y ws n).told (walked u y ws n).warnings)

  pub watched_same : {S : Type 0} (tell : S → ℕ → List Warning → S) (ws : List Warning) (s : S) (n : ℕ) → watched tell t y ws s n ≡ watched tell u y ws s n
  unfolding watched
  watched_same tell ws s zero = refl
  watched_same tell ws s (suc n) = rw (course_same y t u same (suc n), watched_same tell ws s n, walked_same ws (suc n)) refl

  reached_same : (ws : List Warning) (n : ℕ) → reached t y ws n ≡ reached u y ws n
  unfolding reached
  reached_same ws zero = refl
  reached_same ws (suc n) = ap₂ counted (ap (λ w. w.told) (walked_same ws (suc n))) (reached_same ws n)

  pub walks_same : SameWalks y t u
  walks_same = record { count = reached_same; walk = walked_same }
