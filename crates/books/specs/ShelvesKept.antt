-- What a book on a store keeps is sound, and its places are those of its meaning. Assumes nothing.
use Rattle.std.proofs.Common.{◌≡◌, ℕ, zero, suc, ◌-◌, true, ◌<◌, ◌≤◌, List, [], ◌∷◌, ◌++◌, length, take, drop, arith, refl, get_or, sym, ◌∙◌, ap, ◌+◌, length-take-le}
use Rattle.std.proofs.lemmas.List.{take-append-drop, length-drop, get_or-drop}
use Rattle.std.specs.List.{AllByRecursion}
use Rattle.std.proofs.Math.ListN.{replicate}
use Rattle.amounts.specs.declared.row.Amounts.{Amounts}
use Rattle.amounts.specs.Triples.{none}
use Rattle.books.specs.declared.place.Place.{Place}
use Rattle.books.specs.Places.{free, at, in_range}
use Rattle.books.specs.Laws.{Rising, SoundPlace, Sound}
use Rattle.books.specs.Tests.{rises_from, rises, all_ranged, is_sound, all_sound}
use Rattle.books.specs.Stores.{joined, kept_of, laid}

below : (d e : ℕ) (xs : List Place) → e ≤ d → AllByRecursion (λ y. d < y.day) xs → AllByRecursion (λ y. e < y.day) xs
below d e [] l a = tt
below d e (x ∷ xs) l a = (omega (arith, a.0, l), below d e xs l a.1)

from_rises : (d : ℕ) (xs : List Place) → rises_from d xs ≡ true → AllByRecursion (λ y. d < y.day) xs × Rising xs
unfolding rises_from
from_rises d [] h = (tt, tt)
from_rises d (x ∷ xs) h =
    let l : d < x.day = grind arith in
    let g = from_rises x.day xs (grind arith) in
    ((l, below x.day d xs (omega (arith, l)) g.0), (g.0, g.1))

pub rising_by : (xs : List Place) → rises xs ≡ true → Rising xs
rising_by [] h = tt
rising_by (x ∷ xs) h = from_rises x.day xs h

ranged_by : (xs : List Amounts) → all_ranged xs ≡ true → (q : ℕ) → in_range (get_or xs q none) ≡ true
unfolding all_ranged
ranged_by [] h q = refl
ranged_by (x ∷ xs) h zero = grind arith
ranged_by (x ∷ xs) h (suc q) = ranged_by xs (grind arith) q

pub place_by : (x : Place) → is_sound x ≡ true → SoundPlace x
place_by x h = record { day = grind arith; taken = grind arith; long = grind arith; ranged = ranged_by x.amounts (grind arith) }

pub each_by : (xs : List Place) → all_sound xs ≡ true → AllByRecursion SoundPlace xs
unfolding all_sound
each_by [] h = tt
each_by (x ∷ xs) h = (place_by x (grind arith), each_by xs (grind arith))

pub sound_of : (xs : List Place) (u : ℕ) → length xs ≤ 32 → u ≤ length xs → rises (take u xs) ≡ true → all_sound (take u xs) ≡ true → Sound (kept_of xs u)
sound_of xs u f w r e = record { few = f; fits = rw (length-take-le u xs w) w; rising = rising_by (take u xs) r; each = each_by (take u xs) e }

pub all_free : (xs : List Place) → ((q : ℕ) → at xs q ≡ free) → xs ≡ replicate (length xs) free
all_free [] f = refl
all_free (x ∷ xs) f = let h = f 0 in let g = all_free xs (λ q. f (suc q)) in cc

-- the places are the held days, and free ones behind them
pub laid_is : (xs : List Place) (u : ℕ) → u ≤ length xs → ((q : ℕ) → u ≤ q → at xs q ≡ free) → laid (kept_of xs u) ≡ xs
laid_is xs u w f =
    let n = length-take-le u xs w in
    let m = length-drop u xs in
    let e = all_free (drop u xs) (λ q. get_or-drop u xs q free ∙ f (u + q) (omega arith)) in
    ap (λ k. take u xs ++ replicate (length xs - k) free) n ∙ ap (λ k. take u xs ++ replicate k free) (sym m) ∙ ap (λ ys. take u xs ++ ys) (sym e) ∙ take-append-drop u xs

pub pinned_of : {Y : Type 0} (w : Place → List Y) (b : List Y) (ys : List Y) (xs : List Place) (u : ℕ) → ys ≡ joined w xs ++ b → u ≤ length xs → ((q : ℕ) → u ≤ q → at xs q ≡ free) → ys ≡ joined w (laid (kept_of xs u)) ++ b
pinned_of w b ys xs u p l f = p ∙ ap (λ zs. joined w zs ++ b) (sym (laid_is xs u l f))
