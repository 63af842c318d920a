-- What is asked of a file keeps the law of an answer.
use Rattle.std.proofs.Common.{◌≡◌, ℕ, true, List, sym, ap, ◌∙◌}
use Rattle.std.proofs.lemmas.Bool.{cond-true}
use Rattle.terms.specs.Limits.{inside}
use Rattle.terms.specs.Decisions.{decide, Decision}
use Rattle.terms.specs.declared.answer.Answer.{Answer}
use Rattle.terms.specs.declared.answer.Answer.TheVariants.{NoCut}
use Rattle.terms.specs.declared.determinant.Determinant.{Determinant}
use Rattle.terms.proofs.Decides.{decision}
use Rattle.detfile.specs.Lines.{lines}
use Rattle.filesource.specs.Parts.{columns, values, value_lines}
use Rattle.filesource.specs.Asks.{line_says, asked}

module _ (bs : List ℕ) (d u y i : ℕ) (r : Answer) where
  -- an accepted file answers what its columns and value lines say
  pub asked_open : (ks : List Determinant) (vs : List ℕ) → inside d u y i ≡ true → ks ≡ columns bs → vs ≡ values bs → r ≡ decide (line_says ks d u y i) NoCut (lines vs) → r ≡ asked bs d u y i
  asked_open ks vs e k v h =
      h ∙ ap (λ l. decide (line_says l d u y i) NoCut (lines vs)) k ∙ ap (λ l. decide (line_says (columns bs) d u y i) NoCut (lines l)) v
      ∙ sym (cond-true _ _ _ e)

  pub asked_law : r ≡ asked bs d u y i → inside d u y i ≡ true → Decision (line_says (columns bs) d u y i) (value_lines bs) r
  asked_law t e = decision (line_says (columns bs) d u y i) (value_lines bs) r (t ∙ cond-true _ _ _ e)
