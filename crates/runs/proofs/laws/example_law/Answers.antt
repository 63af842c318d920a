use Rattle.std.proofs.Common.{arith}
use Rattle.runs.proofs.Exampled.{is_source, course_clear, amounts_are, charged_are, all_accepted, totals_are, all_charged}
use Rattle.runs.proofs.laws.example_law.Goals as goal

pub returns : goal.returns
returns c = record {
  source = is_source;
  interval = λ y i day first last. record {
    accepted = course_clear y i day first last;
    amounts = amounts_are y i day first last;
    charged = charged_are y i day first last;
  };
  run = λ y day. record { accepted = all_accepted y day 96 (omega arith); amounts = totals_are y day; charged = all_charged y day };
}
