-- The table of a day keeps the laws of a source. Assumes nothing.
use Rattle.std.specs.Prelude.{◌≡◌, ℕ, ◌-◌, ◌≤◌, Bool, true, false, cond, ◌&&◌, List, ℤ, Some, None, Option, ◌==◌, slice_index_or, unsigned_abs, refl}
use Rattle.terms.specs.Answers.{Sized}
use Rattle.terms.specs.Limits.{most_stored}
use Rattle.terms.specs.Sources.{SourceLaws}
use Rattle.terms.specs.declared.answer.Answer.{Answer}
use Rattle.terms.specs.declared.answer.Answer.TheVariants.{NoCut, Null, Figure}
use Rattle.daytable.specs.declared.cut.Cut.{Cut}
use Rattle.daytable.specs.declared.cut.Cut.TheVariants.{Nothing, Given}
use Rattle.daytable.specs.Cuts.{figure_says, cut_says, place, tabled}

figure_none : {X : Type 0} (o : Option ℤ) → figure_says o ≡ NoCut → X
figure_none None e = cc
figure_none (Some z) e = cc

-- a cut is whole: it answers no cut at every interval or at none
cut_none : (c : Cut) (i j : ℕ) → cut_says c i ≡ NoCut → cut_says c j ≡ NoCut
cut_none Nothing i j e = refl
cut_none (Given zs) i j e = figure_none (slice_index_or zs (i - 1) None) e

figures_sized : (a : Answer) → ((z : ℤ) → a ≡ Figure z → unsigned_abs z ≤ most_stored) → Sized a
figures_sized NoCut h = tt
figures_sized Null h = tt
figures_sized (Figure z) h = h z refl

pub tabled_laws : {S : Type 0} (day : S → ℕ) (cuts : S → List Cut) → ((s : S) (d u y i : ℕ) (z : ℤ) → tabled (day s) (cuts s) d u y i ≡ Figure z → unsigned_abs z ≤ most_stored) → SourceLaws (λ s d u y i. tabled (day s) (cuts s) d u y i)
tabled_laws day cuts sized = record {
  outside = λ s d u y i e. rw e;
  whole = λ s d u y i j p q e. whole (y == day s) _ _ (cut_none (slice_index_or (cuts s) (place d u) Nothing) i j) _ _ p q e;
  sized = λ s d u y i. figures_sized (tabled (day s) (cuts s) d u y i) (sized s d u y i);
}
  where
    whole : (t : Bool) (a b : Answer) → (a ≡ NoCut → b ≡ NoCut) → (m n : Bool) → m ≡ true → n ≡ true → cond (m && t) a NoCut ≡ NoCut → cond (n && t) b NoCut ≡ NoCut
    whole true a b k true true p q e = k e
    whole false a b k true true p q e = refl
    whole t a b k false n p q e = cc
    whole t a b k true false p q e = cc
