use Rattle.std.proofs.Common.{arith}
use Rattle.amounts.proofs.Shared.{credited, interval_bound}
use Rattle.amounts.proofs.Ranged.{fit}
use Rattle.amounts.specs.Tables.{working}
use Rattle.amounts.proofs.laws.interval_law.Goals as goal

pub returns : goal.returns
returns c = record {
  credited = λ rd t y i l j. credited rd 64 128 (working t y i rd) (fit rd l t y i 64 128 j);
  balanced = λ rd t y i l j. interval_bound rd 64 128 (working t y i rd) (omega arith) l (fit rd l t y i 64 128 j);
}
