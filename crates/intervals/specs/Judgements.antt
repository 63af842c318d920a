-- What an answer means for an interval. Assumes nothing.
use Rattle.std.specs.Prelude.{cond, pos}
use Rattle.terms.specs.declared.answer.Answer.{Answer}
use Rattle.terms.specs.declared.answer.Answer.TheVariants.{NoCut, Null, Figure}
use Rattle.terms.specs.declared.determinant.Determinant.{Determinant}
use Rattle.terms.specs.declared.determinant.Missing.{Missing as Rule}
use Rattle.terms.specs.declared.determinant.Missing.TheVariants.{Skip, Zero, Warning, Stop}
use Rattle.terms.specs.Determinants.{missing_of, admitted}
use Rattle.intervals.specs.declared.fault.Cause.TheVariants.{Missing, OutOfRange}
use Rattle.intervals.specs.declared.judge.Judgement.{Judgement}
use Rattle.intervals.specs.declared.judge.Judgement.TheVariants.{Taken, Warned, Skipped, Stopped}

-- by the rule for a missing determinant
abbrev pub wanting : Rule → Judgement
wanting Skip = Skipped
wanting Zero = Taken (pos 0)
wanting Warning = Warned
wanting Stop = Stopped Missing

abbrev pub judged : Determinant → Answer → Judgement
judged d NoCut = wanting (missing_of d)
judged d Null = wanting (missing_of d)
judged d (Figure x) = cond (admitted d x) (Taken x) (Stopped OutOfRange)
