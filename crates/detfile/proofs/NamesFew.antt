-- A line with more names than there are determinants has a name twice, or one that is no determinant's.
use Rattle.std.proofs.Common.{◌≡◌, ℕ, zero, suc, ◌+◌, ◌-◌, ◌<◌, ◌≤◌, Bool, true, false, cond, ◌&&◌, ◌||◌, eqb, leb, List, [], ◌∷◌, ◌++◌, length, take, drop, Some, None, sum_by, Option, refl, ap, ◌∙◌, arith}
use Rattle.std.proofs.lemmas.List.Sums.{sum_by-cons, sum_by-append}
use Rattle.std.proofs.lemmas.Bool.{eq-eqb}
use Rattle.terms.specs.Determinants.{all, number_of, named}
use Rattle.terms.specs.declared.determinant.Determinant.{Determinant}
use Rattle.terms.proofs.Tabling.{among_all}
use Rattle.figures.specs.Cuts.{first_field, past_field, spaces}
use Rattle.detfile.specs.Keys.{values_part}
use Rattle.detfile.specs.Names.{most_line, held, headed, next_name, names_on, names_of}

-- 1 for a determinant that is not among ks yet
abbrev free : List Determinant → Determinant → ℕ
free ks k = cond (held k ks) 0 1

-- how many are not
unfoldable room : List Determinant → ℕ
room ks = sum_by (free ks) all

held_push : (k d : Determinant) (ks : List Determinant) → held k (ks ++ d ∷ []) ≡ held k ks || eqb (number_of d) (number_of k)
held_push k d [] = elim (eqb (number_of d) (number_of k)) as (λ t. (t || false) ≡ t) [ true ↦ refl | false ↦ refl ]
held_push k d (j ∷ ks) =
    ap (λ t. eqb (number_of j) (number_of k) || t) (held_push k d ks)
    ∙ elim (eqb (number_of j) (number_of k)) as (λ t. (t || (held k ks || eqb (number_of d) (number_of k))) ≡ ((t || held k ks) || eqb (number_of d) (number_of k))) [ true ↦ refl | false ↦ refl ]

or_less : (a b : Bool) → cond (a || b) 0 1 ≤ cond a 0 1
or_less true b = omega arith
or_less false true = omega arith
or_less false false = omega arith

free_less : (ks : List Determinant) (d k : Determinant) → free (ks ++ d ∷ []) k ≤ free ks k
free_less ks d k = rw (held_push k d ks) (or_less (held k ks) (eqb (number_of d) (number_of k)))

sum_less : (f g : Determinant → ℕ) → ((k : Determinant) → g k ≤ f k) → (xs : List Determinant) → sum_by g xs ≤ sum_by f xs
sum_less f g h [] = omega arith
sum_less f g h (x ∷ xs) = let p = sum_less f g h xs in let q = h x in rw (sum_by-cons f x xs, sum_by-cons g x xs) (omega arith)

or_true : (a : Bool) → (a || true) ≡ true
or_true true = refl
or_true false = refl

-- one name more leaves one place less
room_less : (ks : List Determinant) (d : Determinant) → held d ks ≡ false → room (ks ++ d ∷ []) < room ks
unfolding room
room_less ks d e =
    let f = free ks in
    let g = free (ks ++ d ∷ []) in
    let before = take (number_of d - 1) all in
    let after = drop (number_of d) all in
    let fs : sum_by f all ≡ sum_by f before + (f d + sum_by f after) = ap (sum_by f) (among_all d) ∙ sum_by-append f before (d ∷ after) ∙ ap (λ n. sum_by f before + n) (sum_by-cons f d after) in
    let gs : sum_by g all ≡ sum_by g before + (g d + sum_by g after) = ap (sum_by g) (among_all d) ∙ sum_by-append g before (d ∷ after) ∙ ap (λ n. sum_by g before + n) (sum_by-cons g d after) in
    let p = sum_less f g (free_less ks d) before in
    let q = sum_less f g (free_less ks d) after in
    let fd : f d ≡ 1 = ap (λ t. cond t 0 1) e in
    let gd : g d ≡ 0 = ap (λ t. cond t 0 1) (held_push d d ks ∙ ap (λ t. held d ks || t) (eq-eqb (number_of d) (number_of d) refl) ∙ or_true (held d ks)) in
    omega arith

next_none : (ks : List Determinant) (o : Option Determinant) (f : List Determinant → Option (List Determinant)) → ((d : Determinant) → held d ks ≡ false → f (ks ++ d ∷ []) ≡ None) → next_name ks o f ≡ None
next_none ks None f h = refl
next_none ks (Some d) f h = by (held d ks) refl
  where
    by : (t : Bool) → held d ks ≡ t → cond t None (f (ks ++ d ∷ [])) ≡ None
    by true e = refl
    by false e = h d e

names_room : (n : ℕ) (ks : List Determinant) (bs : List ℕ) → room ks < n → names_on n ks bs ≡ None
names_room zero ks bs h = absurd (omega arith)
names_room (suc n) ks bs h =
    next_none ks (named (first_field bs)) (λ ls. names_on n ls (past_field bs))
    (λ d e. names_room n (ks ++ d ∷ []) (past_field bs) (let l = room_less ks d e in omega arith))

all_free : room [] ≡ 13
unfolding room
all_free = refl

pub names_many : (n : ℕ) (bs : List ℕ) → 13 < n → names_on n [] bs ≡ None
names_many n bs h = names_room n [] bs (let e = all_free in omega arith)

none_cond : {X : Type 0} (a b : Bool) (o : Option X) → o ≡ None → cond a (cond b o None) None ≡ None
none_cond true true o e = e
none_cond true false o e = refl
none_cond false b o e = refl

-- so a line of names with more than fifteen spaces is none
pub many_none : (bs : List ℕ) → 15 < spaces bs → names_of bs ≡ None
many_none bs h =
    none_cond (leb (length bs) most_line && leb 3 (spaces bs)) (headed bs) (names_on (spaces bs - 2) [] (values_part bs)) (names_many (spaces bs - 2) (values_part bs) (omega arith))
