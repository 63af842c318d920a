use Rattle.std.proofs.Common.{◌≡◌, drop}
use Rattle.books.specs.Surveys.{first_out}
use Rattle.books.proofs.survey.first_out.Given as goal

abbrev pub invariant-loop-entity : goal.invariant-loop-entity
invariant-loop-entity l = first_out l.entity (drop l.entity l.amounts) ≡ first_out 0 l.amounts
