use Rattle.std.proofs.Common.{ℤ, Result, sym, subst}
use Rattle.terms.specs.Determinants.{decimals_of}
use Rattle.figures.specs.declared.numbers.Fault.{Fault}
use Rattle.figures.specs.Numbers.{Stores}
use Rattle.figures.proofs.Exactness.{stores}
use Rattle.figures.proofs.numbers.stored_number.Goals as goal

pub returns-clause-law : goal.returns-clause-law
returns-clause-law c =
    let bs = c.args.field.now in
    let d = decimals_of c.args.determinant in
    subst (λ (r : Result ℤ Fault). Stores d bs r) (sym c.signed_number.ensures) (stores d bs)
