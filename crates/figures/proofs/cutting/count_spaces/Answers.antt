use Rattle.std.proofs.Common.{eqb, cond, rules, arith, tests}
use Rattle.std.proofs.lemmas.Iterator.{YieldsList-from_slice, YieldsList-from_map}
use Rattle.std.proofs.lemmas.Iterator.Consumers.{YieldsList-at, fits_by_from_yields_list}
use Rattle.figures.proofs.CutSteps.{few_spaces}
use Rattle.figures.proofs.cutting.count_spaces.Goals as goal

pub sum-requires-clause-fits : goal.sum-requires-clause-fits
sum-requires-clause-fits c =
    let line = c.args.line.now in
    let few = few_spaces line in
    let bound = c.iter.ensures.bound in
    fits_by_from_yields_list _ _ c.map.result _ (YieldsList-from_map _ (λ b. cond (eqb b 32) 1 0) (YieldsList-at c.map.ensures.source (YieldsList-from_slice line cc)) c.map.ensures.closure (λ x r q k. search (rules, tests))) (omega arith)
