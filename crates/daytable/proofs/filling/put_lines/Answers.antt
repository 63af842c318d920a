use Rattle.std.proofs.Common.{length, ap, ◌∙◌, arith}
use Rattle.terms.specs.Decisions.{decide}
use Rattle.detfile.specs.Lines.{lines_judged}
use Rattle.detfile.specs.Names.{columns_in}
use Rattle.detfile.specs.Walks.{lines_left}
use Rattle.detfile.proofs.LineSteps.{few_lines}
use Rattle.filesource.specs.Asks.{line_says}
use Rattle.daytable.specs.Cuts.{cuts_say}
use Rattle.daytable.proofs.filling.put_lines.Goals as goal

pub loop-line-init : goal.loop-line-init
loop-line-init c =
    let ks = columns_in c.args.columns.now in
    let whole = ap lines_left c.into_iter-line-iterator.ensures.into_iter_gives ∙ c.new-line-items.ensures in
    let few = few_lines c.args.values.now in (
      c.requires.long,
      (
        omega (arith, ap length whole, few, c.requires.few),
        (ap (lines_judged ks 0) whole, λ d u i room. ap (decide (line_says ks d u c.args.day i) (cuts_say c.args.cuts.now d u i)) whole),
      ),
    )
