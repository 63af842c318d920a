use Rattle.std.proofs.Common.{◌≡◌, ◌-◌, [], length}
use Rattle.detfile.specs.Names.{columns_in, names_on}
use Rattle.detfile.proofs.names.read_names.Given as goal

abbrev pub invariant-loop : goal.invariant-loop
invariant-loop l = (names_on (l.count - l.counter) (columns_in l.columns) l.rest ≡ names_on l.count [] l.names) × (length (columns_in l.columns) ≡ l.counter)
