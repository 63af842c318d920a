use Rattle.std.proofs.Common.{eqb, sym, ◌∙◌, rules, tests}
use Rattle.std.proofs.lemmas.List.{take_rest}
use Rattle.std.proofs.lemmas.Iterator.{YieldsList-from_slice}
use Rattle.std.proofs.lemmas.Iterator.Search.{position_from_yields_List}
use Rattle.figures.proofs.CutSteps.{cut_none, cut_some}
use Rattle.figures.proofs.cutting.cut_at.Goals as goal

pub returns-in_err-at-clause-parts : goal.returns-in_err-at-clause-parts
returns-in_err-at-clause-parts c =
    let m = c.args.mark in
    let bs = c.args.bytes.now in
    let e = position_from_yields_List (λ b. eqb b m) _ _ c.position.result c.position.ensures.ran (YieldsList-from_slice bs cc) (λ x b q k. search (rules, tests)) in
    rw c.from_residual.ensures (sym (cut_none m bs (sym e ∙ c.in_err-at.was)))

pub returns-clause-parts : goal.returns-clause-parts
returns-clause-parts c =
    let m = c.args.mark in
    let bs = c.args.bytes.now in
    let e = position_from_yields_List (λ b. eqb b m) _ _ c.position.result c.position.ensures.ran (YieldsList-from_slice bs cc) (λ x b q k. search (rules, tests)) in
    rw (take_rest, cut_some m bs c.in_ok-at.at (sym e ∙ c.in_ok-at.was))
