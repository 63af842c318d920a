use Rattle.std.proofs.Common.{sym, ap, ◌∙◌}
use Rattle.imagebook.specs.Images.{fault_of}
use Rattle.imagebook.proofs.Meaning.{read_unformed, opened_err, beside_err}
use Rattle.imagebook.proofs.opening.Opened.new.Goals as goal

pub returns-in-Err-clause-kept : goal.returns-in-Err-clause-kept
returns-in-Err-clause-kept c =
    let bs = c.args.bytes.items in
    c.broken.ensures.kept ∙ sym (opened_err bs _ (read_unformed bs _ c.in-Err.ensures.unformed.1))

pub returns-in-Err-clause-beside : goal.returns-in-Err-clause-beside
returns-in-Err-clause-beside c =
    let bs = c.args.bytes.items in
    c.broken.ensures.beside ∙ ap (λ v. v.items) c.in-Err.ensures.unformed.0 ∙ sym (beside_err bs _ (read_unformed bs _ c.in-Err.ensures.unformed.1))

pub returns-in-Err-clause-fault : goal.returns-in-Err-clause-fault
returns-in-Err-clause-fault c =
    let bs = c.args.bytes.items in
    c.broken.ensures.fault ∙ ap fault_of (sym (read_unformed bs _ c.in-Err.ensures.unformed.1))
