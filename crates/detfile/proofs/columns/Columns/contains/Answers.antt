use Rattle.std.proofs.Common.{ap, ◌∙◌}
use Rattle.detfile.specs.Names.{held}
use Rattle.detfile.proofs.NameSteps.{held_listed}
use Rattle.detfile.proofs.columns.Columns.contains.Goals as goal

pub returns : goal.returns
returns c = c.contains.ensures.value ∙ held_listed c.args.determinant _ ∙ ap (held c.args.determinant) c.as_slice.ensures.value
