use Rattle.std.proofs.Common.{◌≡◌, drop}
use Rattle.detfile.specs.Values.{values_fault}
use Rattle.detfile.proofs.values.check_values.Given as goal

abbrev pub invariant-loop-d : goal.invariant-loop-d
invariant-loop-d l = values_fault (drop l.d-index l.columns) l.rest ≡ values_fault l.columns l.fields
