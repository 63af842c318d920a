-- What the calls of a book on a store ask of its parts.
use Rattle.std.proofs.Common.{◌≡◌, ℕ, Bool, true, ◌||◌, ◌≤◌, List, sym, subst, ap, ◌∙◌, arith}
use Rattle.terms.specs.Limits.{last_day}
use Rattle.amounts.specs.declared.row.Amounts.{Amounts}
use Rattle.books.specs.declared.place.Place.{Place}
use Rattle.books.specs.declared.seats.Seat.{Seat}
use Rattle.books.specs.Places.{marked, replaced, in_range}
use Rattle.books.specs.Kept.{entry_in}
use Rattle.books.specs.Tests.{is_sound, all_sound}
use Rattle.books.specs.Seats.{SeatOf}
use Rattle.books.specs.ShelvesKept.{each_by}
use Rattle.books.proofs.Entries.{entry_day, held_taken}
use Rattle.books.proofs.Keeping.{marked_in, replaced_in}
use Rattle.books.proofs.Testing.{sound_by}

module _ (d : ℕ) (xs : List Place) (s : Seat) (t : SeatOf d xs s) where
  pub seat_day : s.place.day ≡ d
  seat_day = ap (λ x. x.day) t.place ∙ entry_day d xs

  pub seat_own : SeatOf s.place.day xs s
  seat_own = subst (λ z. SeatOf z xs s) (sym seat_day) t

  module _ (a : all_sound xs ≡ true) where
    pub seat_held : s.place.reserved ≡ true → s.is_held ≡ true
    seat_held r = let h = held_taken d xs (each_by xs a) in let e = t.held in let p = t.place in grind arith

    pub seat_marked : (r b : Bool) → d ≤ last_day → (r || b) ≡ true → is_sound (marked s.place r b) ≡ true
    seat_marked r b l h = rw t.place (sound_by (marked (entry_in d xs) r b) (marked_in d xs r b (each_by xs a) l h))

    pub seat_replaced : (q : ℕ) (x : Amounts) → d ≤ last_day → in_range x ≡ true → s.place.reserved ≡ true → is_sound (replaced s.place q x) ≡ true
    seat_replaced q x l h r =
        rw t.place (sound_by (replaced (entry_in d xs) q x) (replaced_in d xs q x (each_by xs a) l h (subst (λ z. z.reserved ≡ true) t.place r)))
