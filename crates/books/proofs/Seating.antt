-- Looking for a day among held days.
use Rattle.std.proofs.Common.{◌≡◌, ℕ, zero, suc, ◌+◌, ◌-◌, true, false, cond, nat_lt, ◌==◌, ◌<◌, ◌≤◌, List, [], ◌∷◌, length, take, drop, arith, refl, get_or-take, length-take-le}
use Rattle.std.proofs.lemmas.List.{drop_more}
use Rattle.books.specs.declared.place.Place.{Place}
use Rattle.books.specs.Places.{at, free}
use Rattle.books.specs.Kept.{entry_in, holds_in, put_in, cut_in}
use Rattle.books.specs.Seats.{before, SeatOf}

-- the first i days were passed by
pub record Passed (d : ℕ) (xs : List Place) (i : ℕ) : Type 0 where
  pub index : before d xs ≡ i + before d (drop i xs)
  pub held : holds_in d xs ≡ holds_in d (drop i xs)
  pub place : entry_in d xs ≡ entry_in d (drop i xs)

-- what is left of the held places begins with the next
pub left : (xs : List Place) (u i : ℕ) → i < u → u ≤ length xs → drop i (take u xs) ≡ at xs i ∷ drop (i + 1) (take u xs)
left xs u i l m =
    let n = length-take-le u xs m in
    let g : i < length (take u xs) = omega (arith, l, n) in
    rw (← get_or-take u xs i free l) (drop_more (take u xs) i free g)

module _ (d : ℕ) (xs : List Place) (i : ℕ) (x : Place) (next : drop i xs ≡ x ∷ drop (i + 1) xs) (p : Passed d xs i) where
  pub passed_more : x.day < d → Passed d xs (i + 1)
  passed_more l = let a = p.index in let b = p.held in let c = p.place in record { index = grind arith; held = grind arith; place = grind arith }

  pub seat_here : x.day ≡ d → SeatOf d xs (record { index = i; is_held = true; place = x })
  seat_here e = let a = p.index in let b = p.held in let c = p.place in record { index = grind arith; held = grind arith; place = grind arith }

-- what stands at each place after a day is put or cut
pub put_at_held : (y : Place) (xs : List Place) (q : ℕ) → holds_in y.day xs ≡ true → at (put_in y xs) q ≡ cond (q == before y.day xs) y (at xs q)
put_at_held y [] q h = grind arith
put_at_held y (x ∷ xs) zero h = grind arith
put_at_held y (x ∷ xs) (suc q) h = let g = put_at_held y xs q in grind arith

pub put_at_new : (y : Place) (xs : List Place) (q : ℕ) → holds_in y.day xs ≡ false → at (put_in y xs) q ≡ cond (nat_lt q (before y.day xs)) (at xs q) (cond (q == before y.day xs) y (at xs (q - 1)))
put_at_new y [] zero h = refl
put_at_new y [] (suc q) h = grind arith
put_at_new y (x ∷ xs) zero h = grind arith
put_at_new y (x ∷ xs) (suc zero) h = let g = put_at_new y xs zero in grind arith
put_at_new y (x ∷ xs) (suc (suc q)) h = let g = put_at_new y xs (suc q) in grind arith

pub cut_at : (d : ℕ) (xs : List Place) (q : ℕ) → holds_in d xs ≡ true → at (cut_in d xs) q ≡ cond (nat_lt q (before d xs)) (at xs q) (at xs (q + 1))
cut_at d [] q h = grind arith
cut_at d (x ∷ xs) zero h = grind arith
cut_at d (x ∷ xs) (suc q) h = let g = cut_at d xs q in grind arith

pub before_held : (d : ℕ) (xs : List Place) → holds_in d xs ≡ true → before d xs < length xs
before_held d [] h = grind arith
before_held d (x ∷ xs) h = let g = before_held d xs in grind arith

pub before_le : (d : ℕ) (xs : List Place) → before d xs ≤ length xs
before_le d [] = omega arith
before_le d (x ∷ xs) = let g = before_le d xs in grind arith
