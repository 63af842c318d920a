-- What every source keeps. Assumes nothing.
use Rattle.std.specs.Prelude.{◌≡◌, ℕ, true, false}
use Rattle.terms.specs.declared.answer.Answer.{Answer}
use Rattle.terms.specs.declared.answer.Answer.TheVariants.{NoCut}
use Rattle.terms.specs.Limits.{inside}
use Rattle.terms.specs.Answers.{Sized}

-- the answers by determinant, unit, day and interval
abbrev pub Table : Type 0
Table = ℕ → ℕ → ℕ → ℕ → Answer

pub record SourceLaws {S : Type 0} (table : S → Table) : Type 0 where
  -- outside the ranges there is no cut
  pub outside : (s : S) (d u y i : ℕ) → inside d u y i ≡ false → table s d u y i ≡ NoCut
  -- there is no cut at one interval of a day exactly when there is none at any
  pub whole : (s : S) (d u y i j : ℕ) → inside d u y i ≡ true → inside d u y j ≡ true → table s d u y i ≡ NoCut → table s d u y j ≡ NoCut
  -- numbers lie within the stored range
  pub sized : (s : S) (d u y i : ℕ) → Sized (table s d u y i)
