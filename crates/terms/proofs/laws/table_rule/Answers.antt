use Rattle.std.proofs.Common.{refl}
use Rattle.terms.proofs.Tabling.{tabled}
use Rattle.terms.proofs.laws.table_rule.Goals as goal

pub returns : goal.returns
returns c = record { rows = tabled; numbers = refl }
