use Rattle.std.proofs.Common.{◌≡◌, ◌<◌, Ok, ap, ◌∙◌, rules, arith}
use Rattle.std.proofs.lemmas.Iterator.Consumers.{YieldsList-from_first}
use Rattle.std.proofs.lemmas.Iterator.Adapters.{serves_from_total}
use Rattle.std.proofs.lemmas.List.Sums.{sum_by-le}
use Rattle.detfile.specs.Lines.{Line, lines, line_counted, lines_judged}
use Rattle.detfile.specs.Walks.{file_line, lines_left}
use Rattle.detfile.specs.Names.{columns_in}
use Rattle.detfile.proofs.LineSteps.{few_lines}
use Rattle.detfile.proofs.LineCounts.{counted_next, lines_counted}
use Rattle.detfile.proofs.check.check_lines.Goals as goal

pub try_fold-requires-clause-callable : goal.try_fold-requires-clause-callable
try_fold-requires-clause-callable c =
    let ks = columns_in c.args.columns.now in
    let bs = c.args.values.now in
    serves_from_total (YieldsList-from_first file_line lines_left (lines bs) c.new.ensures) (λ _. 1)
    (λ n x q k. let h : line_counted ks n (file_line x) ≡ Ok q.1 = search rules in let next = counted_next ks n q.1 (file_line x) h in (search rules, omega arith))
    (λ n x k. let few : n < 16777216 = omega (arith, k, few_lines bs, c.requires, sum_by-le (λ (l : Line). 1) 1 (lines bs) (search rules)) in search rules)

pub returns : goal.returns
returns c =
    let ks = columns_in c.args.columns.now in
    lines_counted ks _ _ _ c.new.result c.try_fold.new.self c.try_fold.result c.try_fold.ensures.ran (λ n x v q k. search rules) ∙ ap (lines_judged ks 0) c.new.ensures
