use Rattle.std.proofs.Common.{◌≡◌, arith}
use Rattle.std.proofs.lemmas.Grind.{common_steps}
use Rattle.figures.specs.Cuts.{first_field, past_field}
use Rattle.figures.proofs.CutSteps.{placed}
use Rattle.figures.proofs.cutting.cut_field.Goals as goal

pub returns-clause-place : goal.returns-clause-place
returns-clause-place c =
    let field : c.unwrap_or.result.0.now ≡ first_field c.args.line.now = grind (arith, common_steps) in
    let left : c.unwrap_or.result.1.now ≡ past_field c.args.line.now = grind (arith, common_steps) in
    rw (field, left) (placed c.args.line.now)
