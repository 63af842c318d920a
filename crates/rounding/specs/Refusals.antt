-- The answers of a rounding rule: each case's number and values. Assumes nothing.
use Rattle.std.specs.Prelude.{ℕ, cond, [], ℤ, Ok, Err, Result}
use Rattle.terms.specs.Told.{Told, fine, refuse}
use Rattle.rounding.specs.declared.refusal.RuleRefusal.{RuleRefusal}
use Rattle.rounding.specs.declared.refusal.RuleRefusal.TheVariants.{OutOfRange}
use Rattle.rounding.specs.Rounds.{within}

abbrev pub numbered : {X : Type 0} → RuleRefusal → Told X
numbered OutOfRange = refuse 6 []

abbrev pub told : Result ℤ RuleRefusal → Told ℤ
told (Ok r) = fine r
told (Err e) = numbered e

abbrev answer_number : Told ℤ → ℕ
answer_number (fine r) = 0
answer_number (refuse a vs) = a

abbrev pub number_of : RuleRefusal → ℕ
number_of e = answer_number (numbered e)

-- what a rule answers, by the table of its results
abbrev pub rounding : (ℤ → ℕ → ℤ) → ℤ → ℕ → Told ℤ
rounding rounded n d = cond (within n d) (fine (rounded n d)) (numbered OutOfRange)
