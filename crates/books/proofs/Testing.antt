-- The tests say what the facts say.
use Rattle.std.proofs.Common.{◌≡◌, ℕ, suc, true, ◌<◌, List, [], ◌∷◌, arith, refl, get_or}
use Rattle.std.specs.List.{AllByRecursion}
use Rattle.amounts.specs.declared.row.Amounts.{Amounts}
use Rattle.amounts.specs.Triples.{none}
use Rattle.books.specs.declared.place.Place.{Place}
use Rattle.books.specs.Places.{in_range}
use Rattle.books.specs.Laws.{Rising, SoundPlace}
use Rattle.books.specs.Tests.{rises_from, rises, all_ranged, is_sound, all_sound}

to_rises : (d : ℕ) (xs : List Place) → AllByRecursion (λ y. d < y.day) xs → Rising xs → rises_from d xs ≡ true
unfolding rises_from
to_rises d [] a r = refl
to_rises d (x ∷ xs) a r = let h = to_rises x.day xs r.0 r.1 in let l = a.0 in grind arith

pub rises_by : (xs : List Place) → Rising xs → rises xs ≡ true
rises_by [] r = refl
rises_by (x ∷ xs) r = to_rises x.day xs r.0 r.1

pub all_ranged_by : (xs : List Amounts) → ((q : ℕ) → in_range (get_or xs q none) ≡ true) → all_ranged xs ≡ true
unfolding all_ranged
all_ranged_by [] h = refl
all_ranged_by (x ∷ xs) h = let a = h 0 in let g = all_ranged_by xs (λ q. h (suc q)) in grind arith

pub sound_by : (x : Place) → SoundPlace x → is_sound x ≡ true
sound_by x s = let d = s.day in let t = s.taken in let l = s.long in let r = all_ranged_by x.amounts s.ranged in grind arith

pub all_by : (xs : List Place) → AllByRecursion SoundPlace xs → all_sound xs ≡ true
unfolding all_sound
all_by [] a = refl
all_by (x ∷ xs) a = let h = sound_by x a.0 in let g = all_by xs a.1 in grind arith
