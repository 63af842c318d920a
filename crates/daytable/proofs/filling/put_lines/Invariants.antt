use Rattle.std.proofs.Common.{◌≡◌, ◌+◌, ◌≤◌, ℕ, length}
use Rattle.terms.specs.Decisions.{decide}
use Rattle.detfile.specs.Lines.{lines, lines_judged}
use Rattle.detfile.specs.Names.{columns_in}
use Rattle.detfile.specs.Walks.{lines_left}
use Rattle.filesource.specs.Asks.{line_says}
use Rattle.daytable.specs.Cuts.{cut_count, Roomy, cuts_say}
use Rattle.daytable.proofs.filling.put_lines.Given as goal

abbrev pub invariant-loop-line : goal.invariant-loop-line
invariant-loop-line l =
    (length l.cuts ≡ cut_count)
    × ((l.count + length (lines_left l.line-iterator) ≤ 16777216)
    × ((lines_judged (columns_in l.columns) l.count (lines_left l.line-iterator) ≡ lines_judged (columns_in l.columns) 0 (lines l.values))
    × ((d u i : ℕ) → Roomy d u i → decide (line_says (columns_in l.columns) d u l.day i) (cuts_say l.cuts d u i) (lines_left l.line-iterator)
    ≡ decide (line_says (columns_in l.columns) d u l.day i) (cuts_say l.initial.cuts d u i) (lines l.values))))
