-- What a book means. Assumes nothing.
use Rattle.std.specs.Prelude.{ℕ, Bool, false, cond, List, [], ◌∷◌, ◌==◌, length, nat_lt, Some, None, Option}
use Rattle.books.specs.declared.place.Place.{Place}
use Rattle.books.specs.Places.{blank, at}

-- how many places there are, and what is kept of the held days, which stand ascending
pub record Kept : Type 0 where
  pub places : ℕ
  pub held : List Place

-- what is kept of a day; of one that is not held, nothing
abbrev pub entry_in : ℕ → List Place → Place
entry_in d [] = blank d
entry_in d (x ∷ xs) = cond (nat_lt x.day d) (entry_in d xs) (cond (x.day == d) x (blank d))

abbrev pub holds_in : ℕ → List Place → Bool
holds_in d [] = false
holds_in d (x ∷ xs) = cond (nat_lt x.day d) (holds_in d xs) (x.day == d)

-- a day put where it belongs, in the place of what was kept of it
abbrev pub put_in : Place → List Place → List Place
put_in y [] = y ∷ []
put_in y (x ∷ xs) = cond (nat_lt x.day y.day) (x ∷ put_in y xs) (cond (x.day == y.day) (y ∷ xs) (y ∷ x ∷ xs))

-- the days without one
abbrev pub cut_in : ℕ → List Place → List Place
cut_in d [] = []
cut_in d (x ∷ xs) = cond (nat_lt x.day d) (x ∷ cut_in d xs) (cond (x.day == d) xs (x ∷ xs))

abbrev pub entry : Kept → ℕ → Place
entry k d = entry_in d k.held

abbrev pub holds : Kept → ℕ → Bool
holds k d = holds_in d k.held

abbrev pub put : Kept → Place → Kept
put k y = record { places = k.places; held = put_in y k.held }

abbrev pub cut : Kept → ℕ → Kept
cut k d = record { places = k.places; held = cut_in d k.held }

-- the held day at an index, from the lowest on
abbrev pub held_at : Kept → ℕ → Option Place
held_at k i = cond (nat_lt i (length k.held)) (Some (at k.held i)) None
