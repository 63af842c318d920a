-- The rule of the table, which antt computes at each row, and what it tells of numbers.
use Rattle.std.proofs.Common.{◌≡◌, ◌-◌, ◌∷◌, ◌++◌, take, drop, rules}
use Rattle.terms.specs.declared.determinant.Determinant.{Determinant}
use Rattle.terms.specs.Determinants.{all, number_of, Tabled}

pub tabled : (k : Determinant) → Tabled k
tabled k = search rules

pub same_number : (j k : Determinant) → number_of j ≡ number_of k → j ≡ k
same_number j k e = search rules

-- every determinant stands in the list of all
pub among_all : (k : Determinant) → all ≡ take (number_of k - 1) all ++ k ∷ drop (number_of k) all
among_all k = search rules
