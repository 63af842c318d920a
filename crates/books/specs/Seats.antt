-- Where a day stands among held days. Assumes nothing.
use Rattle.std.specs.Prelude.{◌≡◌, ℕ, suc, cond, List, [], ◌∷◌, nat_lt}
use Rattle.books.specs.declared.place.Place.{Place}
use Rattle.books.specs.declared.seats.Seat.{Seat}
use Rattle.books.specs.Kept.{entry_in, holds_in}

-- how many held days stand before day d
abbrev pub before : ℕ → List Place → ℕ
before d [] = 0
before d (x ∷ xs) = cond (nat_lt x.day d) (suc (before d xs)) 0

pub record SeatOf (d : ℕ) (xs : List Place) (s : Seat) : Type 0 where
  pub index : s.index ≡ before d xs
  pub held : s.is_held ≡ holds_in d xs
  pub place : s.place ≡ entry_in d xs
