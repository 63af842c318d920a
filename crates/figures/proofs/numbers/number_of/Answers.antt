use Rattle.std.proofs.Common.{ℕ, ◌^◌, ◌<◌, ◌≤◌, length, IfSome, Some, None, Option, arith}
use native.Mathlib.Nat.{pow-le-pow_right}
use Rattle.figures.proofs.numbers.number_of.Goals as goal

-- fewer digits write a smaller number
found_within : (o : Option ℕ) (i j : ℕ) → i ≤ j → IfSome o (λ n. n < 10 ^ i) → IfSome o (λ n. n < 10 ^ j)
found_within None i j h k = tt
found_within (Some n) i j h k = omega (arith, pow-le-pow_right {n = 10} (omega arith) {i = i} {j = j} h)

pub returns-clause-bound : goal.returns-clause-bound
returns-clause-bound c = found_within c.digits.result (length c.args.field.now) c.args.most (omega arith) c.digits.ensures.bound
