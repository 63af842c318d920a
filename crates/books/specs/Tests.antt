-- What a book can keep, as tests: a type can hold them as facts, and a program can run them. Assumes nothing.
use Rattle.std.specs.Prelude.{ℕ, Bool, true, ◌&&◌, List, [], ◌∷◌, length, nat_le, nat_lt, ◌==◌}
use Rattle.terms.specs.Limits.{last_day}
use Rattle.amounts.specs.declared.row.Amounts.{Amounts}
use Rattle.books.specs.declared.place.Place.{Place}
use Rattle.books.specs.Places.{is_taken, in_range}

-- each day is above the one before, and the first above this one
unfoldable pub rises_from : ℕ → List Place → Bool
rises_from d [] = true
rises_from d (x ∷ xs) = nat_lt d x.day && rises_from x.day xs

abbrev pub rises : List Place → Bool
rises [] = true
rises (x ∷ xs) = rises_from x.day xs

unfoldable pub all_ranged : List Amounts → Bool
all_ranged [] = true
all_ranged (a ∷ more) = in_range a && all_ranged more

abbrev pub is_sound : Place → Bool
is_sound x = nat_le x.day last_day && (is_taken x && (length x.amounts == 64 && all_ranged x.amounts))

unfoldable pub all_sound : List Place → Bool
all_sound [] = true
all_sound (x ∷ xs) = is_sound x && all_sound xs
