-- Tables that answer alike about a day.
use Rattle.std.proofs.Common.{◌≡◌, ℕ, cond, ◌==◌, refl, sym, ap, ◌∙◌, arith}
use Rattle.terms.specs.Sources.{Table}
use Rattle.terms.specs.declared.answer.Answer.{Answer}
use Rattle.terms.specs.declared.answer.Answer.TheVariants.{NoCut}
use Rattle.sources.specs.Fills.{filled}
use Rattle.settlement.specs.SameDays.{SameDay}

pub same_here : (y : ℕ) (t : Table) → SameDay y t t
same_here y t = record { agree = λ d n i. refl }

pub same_back : (y : ℕ) (t u : Table) → SameDay y t u → SameDay y u t
same_back y t u s = record { agree = λ d n i. sym (s.agree d n i) }

pub same_on : (y : ℕ) (t u v : Table) → SameDay y t u → SameDay y u v → SameDay y t v
same_on y t u v s r = record { agree = λ d n i. s.agree d n i ∙ r.agree d n i }

-- the zero fills of two such tables
pub filled_same : (y : ℕ) (t u : Table) → SameDay y t u → SameDay y (λ d n z i. filled d (t d n z i)) (λ d n z i. filled d (u d n z i))
filled_same y t u s = record { agree = λ d n i. ap (filled d) (s.agree d n i) }

-- a table that answers for day y alone, as the other does
pub table_same : (y : ℕ) (t u : Table) → ((d n z i : ℕ) → t d n z i ≡ cond (z == y) (u d n z i) NoCut) → SameDay y t u
table_same y t u h = record { agree = λ d n i. h d n y i ∙ here (u d n y i) }
  where
    here : (a : Answer) → cond (y == y) a NoCut ≡ a
    here a = grind arith
