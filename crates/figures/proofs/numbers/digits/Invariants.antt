use Rattle.std.proofs.Common.{◌≡◌, ◌^◌, ◌<◌, drop}
use Rattle.figures.specs.Numbers.{value_on}
use Rattle.figures.proofs.numbers.digits.Given as goal

abbrev pub invariant-loop-b : goal.invariant-loop-b
invariant-loop-b l = (value_on l.n (drop l.b-index l.field) ≡ value_on 0 l.field) × (l.n < 10 ^ l.b-index)
