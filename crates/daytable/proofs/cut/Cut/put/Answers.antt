use Rattle.std.proofs.Common.{◌≡◌, ◌-◌, Bool, true, false, cond, ℤ, Some, None, Option, slice_index_or, ap, ◌∙◌, refl, sym, arith}
use Rattle.std.proofs.lemmas.Grind.{common_steps}
use Rattle.std.proofs.lemmas.List.{get_or-replicate}
use Rattle.terms.specs.Answers.{later}
use Rattle.terms.specs.declared.answer.Answer.TheVariants.{NoCut, Null, Figure}
use Rattle.detfile.specs.Keys.{covers_of}
use Rattle.daytable.specs.Cuts.{figure_says, cut_says}
use Rattle.daytable.proofs.cut.Cut.put.Goals as goal

-- the first number that a cut takes in
first_says : (t : Bool) (z : ℤ) → figure_says (cond t (Some z) None) ≡ later NoCut (cond t (Figure z) Null)
first_says true z = refl
first_says false z = refl

pub returns-in-Nothing : goal.returns-in-Nothing
returns-in-Nothing c = λ i low high.
    let blank = get_or-replicate {A = Option ℤ} 96 (i - 1) None None (omega arith) in
    let written : slice_index_or c.write-in-Nothing.new.figures (i - 1) None ≡ cond (covers_of c.args.interval i) (Some c.args.number) None = grind (arith, common_steps, c.write-in-Nothing.ensures i low high, blank) in
    let first = first_says (covers_of c.args.interval i) c.args.number in
    let none : cut_says c.args.self.now i ≡ NoCut = ap (λ x. cut_says x i) c.in-Nothing.is in
    ap figure_says written ∙ first ∙ ap (λ a. later a (cond (covers_of c.args.interval i) (Figure c.args.number) Null)) (sym none)
