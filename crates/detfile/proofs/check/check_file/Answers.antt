use Rattle.std.proofs.Common.{ℕ, Result, sym, subst}
use Rattle.detfile.specs.declared.refusal.FileRefusal.{FileRefusal}
use Rattle.detfile.specs.Verdicts.{Verdict}
use Rattle.detfile.proofs.VerdictProofs.{verdict}
use Rattle.detfile.proofs.check.check_file.Goals as goal

pub returns-clause-law : goal.returns-clause-law
returns-clause-law c = subst (λ (r : Result ℕ FileRefusal). Verdict c.args.bytes.now r) (sym c.judge.ensures) (verdict c.args.bytes.now)
