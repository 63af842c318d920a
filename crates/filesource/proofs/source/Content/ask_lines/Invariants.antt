use Rattle.std.proofs.Common.{◌≡◌, drop}
use Rattle.terms.specs.Decisions.{decide}
use Rattle.terms.specs.declared.answer.Answer.TheVariants.{NoCut}
use Rattle.detfile.specs.Lines.{lines}
use Rattle.detfile.specs.Names.{columns_in}
use Rattle.detfile.specs.Walks.{lines_left}
use Rattle.filesource.specs.Asks.{column_says, line_says}
use Rattle.filesource.proofs.source.Content.ask_lines.Given as goal

abbrev pub invariant-loop-d : goal.invariant-loop-d
invariant-loop-d l =
    (column_says (drop l.d-index l.columns) l.question.determinant l.covers l.rest
    ≡ column_says l.columns l.question.determinant l.covers l.initial.rest) × (l.answer ≡ l.initial.answer)

abbrev pub invariant-line : goal.invariant-line
invariant-line l =
    decide (line_says l.columns l.question.determinant l.question.unit l.question.day l.question.interval) l.answer (lines_left l.line-iterator)
    ≡ decide (line_says (columns_in l.self.columns) l.question.determinant l.question.unit l.question.day l.question.interval) NoCut (lines l.self.values.now)
