-- What putting a day and cutting one do to what is kept of each day.
use Rattle.std.proofs.Common.{◌≡◌, ℕ, zero, suc, ◌+◌, true, false, ◌<◌, ◌≤◌, List, [], ◌∷◌, length, refl, arith, nat_lt, ◌==◌, ltb-true, subst, ◌∙◌}
use Rattle.std.proofs.lemmas.Bool.{cond_both}
use Rattle.books.specs.declared.place.Place.{Place}
use Rattle.std.specs.List.{AllByRecursion}
use Rattle.books.specs.Places.{blank, at, is_taken}
use Rattle.books.specs.Kept.{Kept, entry_in, holds_in, put_in, cut_in, put, cut}
use Rattle.books.specs.Laws.{Rising, SoundPlace, Changed}

-- a fact of each place, at place i
pub all_at : (P : Place → Type 0) (xs : List Place) (i : ℕ) → AllByRecursion P xs → i < length xs → P (at xs i)
all_at P [] i a l = absurd (omega (arith, l))
all_at P (x ∷ xs) zero a l = a.0
all_at P (x ∷ xs) (suc i) a l = all_at P xs i a.1 (omega (arith, l))

pub put_there : (y : Place) (xs : List Place) → entry_in y.day (put_in y xs) ≡ y
put_there y [] = grind arith
put_there y (x ∷ xs) = let h = put_there y xs in grind arith

pub put_elsewhere : (y : Place) (xs : List Place) (e : ℕ) → (e ≡ y.day → ⊥) → entry_in e (put_in y xs) ≡ entry_in e xs
put_elsewhere y [] e n = grind arith
put_elsewhere y (x ∷ xs) e n = let h = put_elsewhere y xs e n in grind arith

pub above_blank : (d : ℕ) (xs : List Place) → AllByRecursion (λ y. d < y.day) xs → entry_in d xs ≡ blank d
above_blank d [] a = grind arith
above_blank d (x ∷ xs) a = let h = a.0 in grind arith

pub cut_there : (d : ℕ) (xs : List Place) → Rising xs → entry_in d (cut_in d xs) ≡ blank d
cut_there d [] r = grind arith
cut_there d (x ∷ xs) r = let h = cut_there d xs r.1 in let g = above_blank x.day xs r.0 in grind arith

pub below : (d e : ℕ) (xs : List Place) → e ≤ d → AllByRecursion (λ y. d < y.day) xs → AllByRecursion (λ y. e < y.day) xs
below d e [] l a = tt
below d e (x ∷ xs) l a = (omega (arith, a.0), below d e xs l a.1)

pub cut_elsewhere : (d : ℕ) (xs : List Place) (e : ℕ) → (e ≡ d → ⊥) → Rising xs → entry_in e (cut_in d xs) ≡ entry_in e xs
cut_elsewhere d [] e n r = grind arith
cut_elsewhere d (x ∷ xs) e n r =
    let h = cut_elsewhere d xs e n r.1 in
    let g : e ≤ x.day → entry_in e xs ≡ blank e = λ l. above_blank e xs (below x.day e xs l r.0) in
    grind arith

-- a held day is reserved or was billed, and no other is
pub held_taken : (d : ℕ) (xs : List Place) → AllByRecursion SoundPlace xs → holds_in d xs ≡ is_taken (entry_in d xs)
held_taken d [] a = grind arith
held_taken d (x ∷ xs) a = let h = held_taken d xs a.1 in let t = a.0.taken in grind arith

pub entry_day : (d : ℕ) (xs : List Place) → (entry_in d xs).day ≡ d
entry_day d [] = refl
entry_day d (x ∷ xs) = let h = entry_day d xs in grind arith

pub put_changes : (k : Kept) (d : ℕ) (x : Place) → x.day ≡ d → Changed k d x (put k x)
put_changes k d x e = record {
  places = refl;
  there = subst (λ z. entry_in z (put_in x k.held) ≡ x) e (put_there x k.held);
  elsewhere = λ z n. put_elsewhere x k.held z (λ p. n (p ∙ e));
}

pub cut_changes : (k : Kept) (d : ℕ) → Rising k.held → Changed k d (blank d) (cut k d)
cut_changes k d r = record { places = refl; there = cut_there d k.held r; elsewhere = λ e n. cut_elsewhere d k.held e n r }

-- a held day that is put is held no longer and no shorter; a new one is one more
pub put_held : (y : Place) (xs : List Place) → holds_in y.day xs ≡ true → length (put_in y xs) ≡ length xs
put_held y [] h = grind arith
put_held y (x ∷ xs) h = let g = put_held y xs in grind arith

pub put_new : (y : Place) (xs : List Place) → holds_in y.day xs ≡ false → length (put_in y xs) ≡ length xs + 1
put_new y [] h = grind arith
put_new y (x ∷ xs) h = let g = put_new y xs in grind arith

pub cut_held : (d : ℕ) (xs : List Place) → holds_in d xs ≡ true → length (cut_in d xs) + 1 ≡ length xs
cut_held d [] h = grind arith
cut_held d (x ∷ xs) h = let g = cut_held d xs in grind arith

pub put_holds : (y : Place) (xs : List Place) (e : ℕ) → holds_in y.day xs ≡ true → holds_in e (put_in y xs) ≡ holds_in e xs
put_holds y [] e h = grind arith
put_holds y (x ∷ xs) e h = let g = put_holds y xs e in grind arith

-- what is put is put above what is below it
put_above : (b : ℕ) (y : Place) (xs : List Place) → b < y.day → AllByRecursion (λ z. b < z.day) xs → AllByRecursion (λ z. b < z.day) (put_in y xs)
put_above b y [] l a = (l, tt)
put_above b y (x ∷ xs) l a =
    let g = put_above b y xs l a.1 in
    cond_both (nat_lt x.day y.day) _ _ (AllByRecursion (λ z. b < z.day)) (λ t. (a.0, g)) (λ f. cond_both (x.day == y.day) _ _ (AllByRecursion (λ z. b < z.day)) (λ t. (l, a.1)) (λ f'. (l, a)))

pub put_rises : (y : Place) (xs : List Place) → Rising xs → Rising (put_in y xs)
put_rises y [] r = (tt, tt)
put_rises y (x ∷ xs) r =
    let g = put_rises y xs r.1 in
    cond_both (nat_lt x.day y.day) _ _ Rising
    (λ t. (put_above x.day y xs (ltb-true x.day y.day t) r.0, g))
    (λ f. cond_both (x.day == y.day) _ _ Rising
    (λ t. (below x.day y.day xs (grind arith) r.0, r.1))
    (λ f'. ((grind arith, below x.day y.day xs (grind arith) r.0), r)))

pub absent_blank : (d : ℕ) (xs : List Place) → holds_in d xs ≡ false → entry_in d xs ≡ blank d
absent_blank d [] h = refl
absent_blank d (x ∷ xs) h = let g = absent_blank d xs in grind arith

-- the place of a held day is the one that is found
pub found : (xs : List Place) (i : ℕ) → Rising xs → i < length xs → entry_in (at xs i).day xs ≡ at xs i
found [] i r l = absurd (omega (arith, l))
found (x ∷ xs) zero r l = grind arith
found (x ∷ xs) (suc i) r l =
    let h = found xs i r.1 (omega (arith, l)) in
    let g : x.day < (at xs i).day = all_at (λ y. x.day < y.day) xs i r.0 (omega (arith, l)) in
    grind arith
