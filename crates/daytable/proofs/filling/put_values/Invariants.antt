use Rattle.std.proofs.Common.{◌≡◌, ℕ, cond, eqb, length, drop}
use Rattle.terms.specs.Answers.{later}
use Rattle.terms.specs.declared.answer.Answer.TheVariants.{NoCut}
use Rattle.detfile.specs.Keys.{covers_of}
use Rattle.detfile.specs.Values.{values_fault}
use Rattle.filesource.specs.Asks.{column_says}
use Rattle.daytable.specs.Columns.{Apart}
use Rattle.daytable.specs.Cuts.{cut_count, Roomy, cuts_say}
use Rattle.daytable.proofs.filling.put_values.Given as goal

abbrev pub invariant-loop-d : goal.invariant-loop-d
invariant-loop-d l =
    (length l.cuts ≡ cut_count)
    × (Apart (drop l.d-index l.columns)
    × ((values_fault (drop l.d-index l.columns) l.rest ≡ values_fault l.columns l.fields)
    × ((d u i : ℕ) → Roomy d u i → later (cuts_say l.cuts d u i) (cond (eqb l.key.unit u) (column_says (drop l.d-index l.columns) d (covers_of l.key.interval i) l.rest) NoCut)
    ≡ later (cuts_say l.initial.cuts d u i) (cond (eqb l.key.unit u) (column_says l.columns d (covers_of l.key.interval i) l.fields) NoCut))))
