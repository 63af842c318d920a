-- No column of a file stands twice.
use Rattle.std.proofs.Common.{◌≡◌, ℕ, zero, suc, ◌-◌, Bool, true, false, cond, ◌&&◌, ◌||◌, eqb, leb, List, [], ◌∷◌, ◌++◌, length, Some, None, Ok, Err, Option, Result, ok_or, refl, sym, ap, subst}
use Rattle.std.proofs.lemmas.Bool.{ne_eqb, eqb-false}
use Rattle.terms.specs.Determinants.{number_of, named}
use Rattle.terms.specs.declared.determinant.Determinant.{Determinant}
use Rattle.figures.specs.Cuts.{cut, first_field, past_field, spaces}
use Rattle.detfile.specs.declared.refusal.FileRefusal.{FileRefusal}
use Rattle.detfile.specs.declared.refusal.FileRefusal.TheVariants.{Names}
use Rattle.detfile.specs.Keys.{then, values_part}
use Rattle.detfile.specs.Names.{most_line, held, headed, next_name, names_on, names_of}
use Rattle.detfile.specs.Files.{names_cut}
use Rattle.daytable.specs.Columns.{Apart}

or_parts : (a b : Bool) → (a || b) ≡ false → (a ≡ false) × (b ≡ false)
or_parts false b e = (refl, e)
or_parts true b e = cc

or_both : (a b : Bool) → a ≡ false → b ≡ false → (a || b) ≡ false
or_both false b p q = q
or_both true b p q = cc

-- one more, that stands not among them, may follow
held_last : (j k : Determinant) (ks : List Determinant) → held j ks ≡ false → eqb (number_of k) (number_of j) ≡ false → held j (ks ++ k ∷ []) ≡ false
held_last j k [] e n = ap (λ t. t || false) n
held_last j k (i ∷ ks) e n = let p = or_parts _ _ e in or_both _ _ p.0 (held_last j k ks p.1 n)

apart_more : (k : Determinant) (ks : List Determinant) → Apart ks → held k ks ≡ false → Apart (ks ++ k ∷ [])
apart_more k [] a e = (refl, tt)
apart_more k (j ∷ ks) a e =
    let p = or_parts _ _ e in
    (held_last j k ks a.0 (ne_eqb _ _ (λ h. eqb-false _ _ p.0 (sym h))), apart_more k ks a.1 p.1)

abbrev SomeApart : Option (List Determinant) → Type 0
SomeApart None = Unit {0}
SomeApart (Some ks) = Apart ks

next_apart : (ks : List Determinant) (o : Option Determinant) (f : List Determinant → Option (List Determinant)) → Apart ks → ((ls : List Determinant) → Apart ls → SomeApart (f ls)) → SomeApart (next_name ks o f)
next_apart ks None f a h = tt
next_apart ks (Some k) f a h = by (held k ks) refl
  where
    by : (t : Bool) → held k ks ≡ t → SomeApart (cond t None (f (ks ++ k ∷ [])))
    by true e = tt
    by false e = h (ks ++ k ∷ []) (apart_more k ks a e)

names_apart : (n : ℕ) (ks : List Determinant) (bs : List ℕ) → Apart ks → SomeApart (names_on n ks bs)
names_apart zero ks bs a = a
names_apart (suc n) ks bs a = next_apart ks (named (first_field bs)) (λ ls. names_on n ls (past_field bs)) a (λ ls b. names_apart n ls (past_field bs) b)

line_apart : (bs : List ℕ) → SomeApart (names_of bs)
line_apart bs = by (leb (length bs) most_line && leb 3 (spaces bs)) (headed bs)
  where
    by : (s t : Bool) → SomeApart (cond s (cond t (names_on (spaces bs - 2) [] (values_part bs)) None) None)
    by true true = names_apart (spaces bs - 2) [] (values_part bs) tt
    by true false = tt
    by false t = tt

abbrev OkApart : Result (List Determinant × List ℕ) FileRefusal → Type 0
OkApart (Err e) = Unit {0}
OkApart (Ok p) = Apart p.0

columns_apart : (bs : List ℕ) → OkApart (names_cut bs)
columns_apart bs = first (cut 10 bs)
  where
    second : (values : List ℕ) (o : Option (List Determinant)) → SomeApart o → OkApart (then (ok_or o Names) (λ ks. Ok (ks, values)))
    second values None h = tt
    second values (Some ks) h = h

    first : (o : Option (List ℕ × List ℕ)) → OkApart (then (ok_or o Names) (λ p. then (ok_or (names_of p.0) Names) (λ ks. Ok (ks, p.1))))
    first None = tt
    first (Some p) = second p.1 (names_of p.0) (line_apart p.0)

pub cut_apart : (bs : List ℕ) (ks : List Determinant) (vs : List ℕ) → names_cut bs ≡ Ok (ks, vs) → Apart ks
cut_apart bs ks vs e = subst OkApart e (columns_apart bs)
