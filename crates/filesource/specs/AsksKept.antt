-- A file keeps the laws of a source. Assumes nothing.
use Rattle.std.specs.Prelude.{◌≡◌, ℕ, zero, suc, ◌≤◌, Bool, true, false, cond, ◌&&◌, List, [], ◌∷◌, drop, ℤ, pos, neg_ℤ, Some, None, Ok, Err, Option, Result, ◌==◌, nat_le, slice_index, unsigned_abs, refl}
use Rattle.std.proofs.lemmas.Bool.{leb-true, cond_both}
use Rattle.terms.specs.Limits.{most_stored, inside}
use Rattle.terms.specs.Answers.{Sized}
use Rattle.terms.specs.DecisionsKept.{decide_none, decide_sized}
use Rattle.terms.specs.Determinants.{number_of, decimals_of}
use Rattle.terms.specs.Sources.{SourceLaws}
use Rattle.terms.specs.declared.answer.Answer.TheVariants.{NoCut}
use Rattle.terms.specs.declared.determinant.Determinant.{Determinant}
use Rattle.figures.specs.Cuts.{first_field, past_field}
use Rattle.figures.specs.Numbers.{magnitude, bounded, stored}
use Rattle.figures.specs.Tokens.{Seen, nothing, every, number, token_of}
use Rattle.figures.specs.declared.numbers.Fault.{Fault}
use Rattle.detfile.specs.Keys.{then, key_of, values_part, covers_of}
use Rattle.detfile.specs.Lines.{Line, ended, unended}
use Rattle.detfile.specs.Values.{given, given_by}
use Rattle.detfile.specs.declared.key.Key.{Key}
use Rattle.filesource.specs.Parts.{columns, value_lines}
use Rattle.filesource.specs.Asks.{value_says, column_says, key_says, line_says, asked}

-- what says nothing at one interval says nothing at another
value_none : (a b : Bool) (r : Result (Option ℤ) Fault) → value_says a r ≡ NoCut → value_says b r ≡ NoCut
value_none a b (Err e) h = refl
value_none a b (Ok None) h = refl
value_none true b (Ok (Some z)) h = cc
value_none false b (Ok (Some z)) h = cc

column_none : (ks : List Determinant) (d : ℕ) (a b : Bool) (bs : List ℕ) → column_says ks d a bs ≡ NoCut → column_says ks d b bs ≡ NoCut
column_none [] d a b bs h = refl
column_none (k ∷ ks) d a b bs h = by (number_of k == d) (value_none a b (given k (first_field bs))) (column_none ks d a b (past_field bs)) h
  where
    by : (t : Bool) → (value_says a (given k (first_field bs)) ≡ NoCut → value_says b (given k (first_field bs)) ≡ NoCut) → (column_says ks d a (past_field bs) ≡ NoCut → column_says ks d b (past_field bs) ≡ NoCut) → cond t (value_says a (given k (first_field bs))) (column_says ks d a (past_field bs)) ≡ NoCut → cond t (value_says b (given k (first_field bs))) (column_says ks d b (past_field bs)) ≡ NoCut
    by true p q e = p e
    by false p q e = q e

key_none : (ks : List Determinant) (d u y i j : ℕ) (bs : List ℕ) (r : Result Key Fault) → key_says ks d u y i bs r ≡ NoCut → key_says ks d u y j bs r ≡ NoCut
key_none ks d u y i j bs (Err e) h = refl
key_none ks d u y i j bs (Ok k) h = by (k.day == y && k.unit == u) h
  where
    by : (t : Bool) → cond t (column_says ks d (covers_of k.interval i) bs) NoCut ≡ NoCut → cond t (column_says ks d (covers_of k.interval j) bs) NoCut ≡ NoCut
    by true e = column_none ks d (covers_of k.interval i) (covers_of k.interval j) bs e
    by false e = refl

line_none : (ks : List Determinant) (d u y i j : ℕ) (l : Line) → line_says ks d u y i l ≡ NoCut → line_says ks d u y j l ≡ NoCut
line_none ks d u y i j (ended l) h = key_none ks d u y i j (values_part l) (key_of l) h
line_none ks d u y i j (unended l) h = refl

-- numbers that a field gives lie within the stored range
abbrev Within : Result ℤ Fault → Type 0
Within (Ok z) = unsigned_abs z ≤ most_stored
Within (Err e) = Unit {0}

signed_size : (minus : Bool) (n : ℕ) → n ≤ most_stored → unsigned_abs (cond minus (neg_ℤ (pos n)) (pos n)) ≤ most_stored
signed_size true zero h = h
signed_size true (suc n) h = h
signed_size false n h = h

bounded_within : (minus : Bool) (o : Option ℕ) → Within (bounded minus o)
bounded_within minus None = tt
bounded_within minus (Some n) = cond_both (nat_le n most_stored) (Ok (cond minus (neg_ℤ (pos n)) (pos n))) _ Within (λ t. signed_size minus n (leb-true n most_stored t)) (λ _. tt)

stored_within : (k : Determinant) (bs : List ℕ) → Within (stored k bs)
stored_within k bs =
    cond_both (slice_index bs 0 == 45) (bounded true (magnitude (decimals_of k) (drop 1 bs))) (bounded false (magnitude (decimals_of k) bs)) Within (λ _. bounded_within true (magnitude (decimals_of k) (drop 1 bs))) (λ _. bounded_within false (magnitude (decimals_of k) bs))

abbrev GivenWithin : Result (Option ℤ) Fault → Type 0
GivenWithin (Ok None) = Unit {0}
GivenWithin (Ok (Some z)) = unsigned_abs z ≤ most_stored
GivenWithin (Err e) = Unit {0}

number_within : (r : Result ℤ Fault) → Within r → GivenWithin (then r (λ z. Ok (Some z)))
number_within (Ok z) h = h
number_within (Err e) h = tt

given_within : (k : Determinant) (s : Seen) → GivenWithin (given_by k s)
given_within k nothing = tt
given_within k every = tt
given_within k (number part) = number_within (stored k part) (stored_within k part)

value_sized : (c : Bool) (r : Result (Option ℤ) Fault) → GivenWithin r → Sized (value_says c r)
value_sized c (Err e) h = tt
value_sized c (Ok None) h = tt
value_sized true (Ok (Some z)) h = h
value_sized false (Ok (Some z)) h = tt

column_sized : (ks : List Determinant) (d : ℕ) (c : Bool) (bs : List ℕ) → Sized (column_says ks d c bs)
column_sized [] d c bs = tt
column_sized (k ∷ ks) d c bs =
    cond_both (number_of k == d) (value_says c (given k (first_field bs))) (column_says ks d c (past_field bs)) Sized
    (λ _. value_sized c (given k (first_field bs)) (given_within k (token_of (first_field bs)))) (λ _. column_sized ks d c (past_field bs))

key_sized : (ks : List Determinant) (d u y i : ℕ) (bs : List ℕ) (r : Result Key Fault) → Sized (key_says ks d u y i bs r)
key_sized ks d u y i bs (Err e) = tt
key_sized ks d u y i bs (Ok k) =
    cond_both (k.day == y && k.unit == u) (column_says ks d (covers_of k.interval i) bs) NoCut Sized (λ _. column_sized ks d (covers_of k.interval i) bs) (λ _. tt)

line_sized : (ks : List Determinant) (d u y i : ℕ) (l : Line) → Sized (line_says ks d u y i l)
line_sized ks d u y i (ended l) = key_sized ks d u y i (values_part l) (key_of l)
line_sized ks d u y i (unended l) = tt

pub asked_laws : {S : Type 0} (bytes : S → List ℕ) → SourceLaws (λ s d u y i. asked (bytes s) d u y i)
asked_laws bytes = record {
  outside = λ s d u y i e. rw e;
  whole = λ s d u y i j p q e. let ks = columns (bytes s) in rw q (decide_none (line_says ks d u y i) (line_says ks d u y j) (line_none ks d u y i j) (value_lines (bytes s)) NoCut NoCut (λ h. h) (rw p at e));
  sized = λ s d u y i. let ks = columns (bytes s) in cond_both (inside d u y i) _ NoCut Sized (λ _. decide_sized (line_says ks d u y i) (line_sized ks d u y i) (value_lines (bytes s)) NoCut tt) (λ _. tt);
}
