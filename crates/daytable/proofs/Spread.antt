-- The fields of a line, one after the other.
use Rattle.std.proofs.Common.{◌≡◌, ℕ, Bool, true, false, cond, ◌&&◌, ◌||◌, eqb, List, [], ◌∷◌, ℤ, Ok, Err, Option, Result, refl, sym, ap, ◌∙◌, subst}
use Rattle.std.proofs.lemmas.Bool.{eqb-true}
use Rattle.terms.specs.Answers.{later}
use Rattle.terms.specs.Determinants.{number_of}
use Rattle.terms.specs.declared.answer.Answer.{Answer}
use Rattle.terms.specs.declared.answer.Answer.TheVariants.{NoCut}
use Rattle.terms.specs.declared.determinant.Determinant.{Determinant}
use Rattle.figures.specs.Cuts.{first_field, past_field}
use Rattle.figures.specs.declared.numbers.Fault.{Fault}
use Rattle.detfile.specs.Keys.{then}
use Rattle.detfile.specs.Names.{held}
use Rattle.detfile.specs.Values.{given, values_fault}
use Rattle.filesource.specs.Asks.{value_says, column_says}
use Rattle.daytable.specs.Columns.{Apart}

-- a determinant that is none of the columns is given nothing
held_none : (k : Determinant) (ks : List Determinant) (c : Bool) (bs : List ℕ) → held k ks ≡ false → column_says ks (number_of k) c bs ≡ NoCut
held_none k [] c bs e = refl
held_none k (j ∷ js) c bs e = by (eqb (number_of j) (number_of k)) (held_none k js c (past_field bs)) e
  where
    by : (t : Bool) → (held k js ≡ false → column_says js (number_of k) c (past_field bs) ≡ NoCut) → (t || held k js) ≡ false → cond t (value_says c (given j (first_field bs))) (column_says js (number_of k) c (past_field bs)) ≡ NoCut
    by true more h = cc
    by false more h = more h

-- one field and then the rest, where the rest says nothing of that field's determinant
in_turn : (m n : Bool) (a b x y : Answer) → b ≡ later a (cond (m && n) x NoCut) → (n ≡ true → y ≡ NoCut) → later b (cond m y NoCut) ≡ later a (cond m (cond n x y) NoCut)
in_turn false n a b x y e h = e
in_turn true true a b x y e h = rw (h refl) e
in_turn true false a b x y e h = ap (λ w. later w y) e

field_spread : (m : Bool) (d : ℕ) (k : Determinant) (ks : List Determinant) (c : Bool) (bs : List ℕ) (a b : Answer) → held k ks ≡ false
    → b ≡ later a (cond (m && eqb (number_of k) d) (value_says c (given k (first_field bs))) NoCut)
    → later b (cond m (column_says ks d c (past_field bs)) NoCut) ≡ later a (cond m (column_says (k ∷ ks) d c bs) NoCut)
field_spread m d k ks c bs a b apart e =
    in_turn m (eqb (number_of k) d) a b _ _ e (λ t. ap (λ n. column_says ks n c (past_field bs)) (sym (eqb-true (number_of k) d t)) ∙ held_none k ks c (past_field bs) apart)

-- the columns l, of which the first is k
pub field_more : (l : List Determinant) (k : Determinant) (ks : List Determinant) → l ≡ k ∷ ks → Apart l → Apart ks
    × ((m : Bool) (d : ℕ) (c : Bool) (bs : List ℕ) (a b : Answer) → b ≡ later a (cond (m && eqb (number_of k) d) (value_says c (given k (first_field bs))) NoCut)
    → later b (cond m (column_says ks d c (past_field bs)) NoCut) ≡ later a (cond m (column_says l d c bs) NoCut))
field_more l k ks e apart =
    let h = subst Apart e apart in
    (h.1, λ m d c bs a b g. field_spread m d k ks c bs a b h.0 g ∙ ap (λ x. later a (cond m (column_says x d c bs) NoCut)) (sym e))

-- a field that is not at fault leaves the verdict to those after it
pub sound_first : (l : List Determinant) (k : Determinant) (ks : List Determinant) (bs : List ℕ) (x : Unit {0}) → l ≡ k ∷ ks → then (given k (first_field bs)) (λ _. Ok tt) ≡ Ok x → values_fault ks (past_field bs) ≡ values_fault l bs
sound_first l k ks bs x e h = by (given k (first_field bs)) h ∙ ap (λ ds. values_fault ds bs) (sym e)
  where
    by : (r : Result (Option ℤ) Fault) → then {Y = Unit {0}} r (λ _. Ok tt) ≡ Ok x → values_fault ks (past_field bs) ≡ then r (λ _. values_fault ks (past_field bs))
    by (Ok o) t = refl
    by (Err f) t = cc
