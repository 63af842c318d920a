-- The table of a file keeps the laws of a source, filled or not. Assumes nothing.
use Rattle.std.specs.Prelude.{◌≡◌, Bool, true, false}
use Rattle.terms.specs.declared.answer.Answer.TheVariants.{NoCut}
use Rattle.terms.specs.Answers.{Sized}
use Rattle.terms.specs.Sources.{Table, SourceLaws}
use Rattle.sources.specs.FillsKept.{filled_laws}
use Rattle.settlement.specs.Tables.{chosen}

pub chosen_laws : {S B : Type 0} {table : B → Table} (fill : S → Bool) (below : S → B) → SourceLaws table → SourceLaws (λ s. chosen (fill s) (table (below s)))
chosen_laws {S} {B} {table} fill below laws =
    let filled : SourceLaws (λ (s : S). chosen true (table (below s))) = filled_laws below laws in
    record {
      outside = λ s d u y i e. elim (fill s) as (λ b. chosen b (table (below s)) d u y i ≡ NoCut) [ true ↦ filled.outside s d u y i e | false ↦ laws.outside (below s) d u y i e ];
      whole = λ s d u y i j p q. elim (fill s) as (λ b. chosen b (table (below s)) d u y i ≡ NoCut → chosen b (table (below s)) d u y j ≡ NoCut) [ true ↦ filled.whole s d u y i j p q | false ↦ laws.whole (below s) d u y i j p q ];
      sized = λ s d u y i. elim (fill s) as (λ b. Sized (chosen b (table (below s)) d u y i)) [ true ↦ filled.sized s d u y i | false ↦ laws.sized (below s) d u y i ];
    }
