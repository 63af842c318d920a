-- The zero fill keeps the laws of a source where the source below does. Assumes nothing.
use Rattle.std.specs.Prelude.{◌≡◌, ℕ, Bool, true, false, cond, ◌&&◌, nat_le, refl}
use Rattle.std.proofs.Common.{arith}
use Rattle.std.proofs.lemmas.Bool.{cond_both}
use Rattle.terms.specs.Answers.{Sized}
use Rattle.terms.specs.Sources.{Table, SourceLaws}
use Rattle.terms.specs.declared.answer.Answer.{Answer}
use Rattle.terms.specs.declared.answer.Answer.TheVariants.{NoCut, Null, Figure}
use Rattle.sources.specs.Fills.{zeroed, filled}

zeroed_back : (a : Answer) → zeroed a ≡ NoCut → a ≡ NoCut
zeroed_back NoCut e = refl
zeroed_back Null e = cc
zeroed_back (Figure z) e = cc

-- a filled answer is no cut just where the answer is
filled_back : (d : ℕ) (a : Answer) → filled d a ≡ NoCut → a ≡ NoCut
filled_back d a e = by (nat_le 2 d && nat_le d 4) e
  where
    by : (b : Bool) → cond b (zeroed a) a ≡ NoCut → a ≡ NoCut
    by true h = zeroed_back a h
    by false h = h

filled_none : (d : ℕ) (a : Answer) → a ≡ NoCut → filled d a ≡ NoCut
filled_none d a e = rw e (by (nat_le 2 d && nat_le d 4))
  where
    by : (b : Bool) → cond b NoCut NoCut ≡ NoCut
    by true = refl
    by false = refl

sized_zeroed : (a : Answer) → Sized a → Sized (zeroed a)
sized_zeroed NoCut s = s
sized_zeroed Null s = omega arith
sized_zeroed (Figure z) s = s

pub filled_laws : {S B : Type 0} {table : B → Table} (below : S → B) → SourceLaws table → SourceLaws (λ s d u y i. filled d (table (below s) d u y i))
filled_laws below laws = record {
  outside = λ s d u y i e. filled_none d _ (laws.outside (below s) d u y i e);
  whole = λ s d u y i j p q e. filled_none d _ (laws.whole (below s) d u y i j p q (filled_back d _ e));
  sized = λ s d u y i. let h = laws.sized (below s) d u y i in cond_both (nat_le 2 d && nat_le d 4) _ _ Sized (λ _. sized_zeroed _ h) (λ _. h);
}
