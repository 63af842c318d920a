use Rattle.std.proofs.Common.{◌≡◌, ◌∙◌, arith, rules}
use Rattle.std.proofs.Output.{has_written_of_eq}
use Rattle.terms.specs.Determinants.{decimals_of}
use Rattle.notation.proofs.Padded.{sign_of, figure_text}
use Rattle.notation.proofs.figure.FigureDisplay.fmt.Goals as goal
use Rattle.notation.proofs.figure.FigureDisplay.fmt.Goals.{then-self-lt0, else-self-lt0}

pub returns-clause-writes : goal.returns-clause-writes
returns-clause-writes g c plain ok =
    let sign : c.if-self-lt0.sign.now ≡ sign_of c.args.self.now.stored = elim c.if-self-lt0.branch [
      | then-self-lt0 w ↦ search rules
      | else-self-lt0 w ↦ search rules
    ] in
    let some : decimals_of c.args.self.now.determinant ≡ 0 → ⊥ = λ z. c.if-decimals-eq0.false (c.decimals-decimals.ensures.value ∙ z) in
    has_written_of_eq _ _ _ _ _
    (rw (c.pow-unit.ensures, c.laid_out.ensures, c.decimals-decimals.ensures.value) (figure_text _ _ _ _ some (omega arith) (search rules) sign))
    (c.write-2.ensures.writes plain ok)
