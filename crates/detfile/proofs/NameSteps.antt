-- One step of the walks over names.
use Rattle.std.proofs.Common.{◌≡◌, ℕ, ◌+◌, ◌-◌, ◌<◌, Bool, true, false, eqb, List, [], ◌∷◌, ◌++◌, Some, None, sym, refl, ap, arith, rules}
use denote.Enum.Bare.{sameb, same_true, same_false}
use Rattle.std.specs.List.{list_any}
use Rattle.terms.specs.contracts.determinant.Determinant.{the_type}
use Rattle.terms.proofs.Tabling.{same_number}
use Rattle.std.proofs.lemmas.Bool.{eq-eqb, ne_eqb}
use Rattle.terms.specs.declared.determinant.Determinant.{Determinant}
use Rattle.terms.specs.Determinants.{number_of, named}
use Rattle.figures.specs.Cuts.{first_field, past_field}
use Rattle.detfile.specs.Names.{held, names_on}

-- two determinants are the same where their numbers are
same_by_number : (j k : Determinant) → sameb the_type j k ≡ eqb (number_of j) (number_of k)
same_by_number j k = by (sameb the_type j k) refl
  where
    by : (t : Bool) → sameb the_type j k ≡ t → t ≡ eqb (number_of j) (number_of k)
    by true e = sym (eq-eqb _ _ (ap number_of (same_true the_type (search rules) j k e)))
    by false e = sym (ne_eqb _ _ (λ n. same_false the_type j k e (same_number j k n)))

pub held_listed : (d : Determinant) (ks : List Determinant) → list_any (λ k. sameb the_type k d) ks ≡ held d ks
held_listed d [] = refl
held_listed d (k ∷ ks) = cc (same_by_number k d, held_listed d ks)

module _ (n i : ℕ) (ks : List Determinant) (bs : List ℕ) (h : i < n) where
  pub names_twice : (d : Determinant) → Some d ≡ named (first_field bs) → held d ks ≡ true → names_on (n - i) ks bs ≡ None
  names_twice d e t = grind arith

  pub names_more : (d : Determinant) → Some d ≡ named (first_field bs) → held d ks ≡ false → names_on (n - i) ks bs ≡ names_on (n - (i + 1)) (ks ++ d ∷ []) (past_field bs)
  names_more d e t = grind arith
