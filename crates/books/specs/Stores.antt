-- How a store's places become what a book keeps. Assumes nothing.
use Rattle.std.specs.Prelude.{◌≡◌, ℕ, ◌+◌, ◌-◌, ◌<◌, ◌≤◌, List, [], ◌∷◌, ◌++◌, length, take}
use Rattle.std.proofs.Math.ListN.{replicate}
use Rattle.books.specs.declared.place.Place.{Place}
use Rattle.books.specs.Places.{free, at}
use Rattle.books.specs.Kept.{Kept}

-- what each place is written as, one after the other
unfoldable pub joined : {X Y : Type 0} → (X → List Y) → List X → List Y
joined f [] = []
joined f (x ∷ xs) = f x ++ joined f xs

-- the first places hold days, the others are free
abbrev pub kept_of : List Place → ℕ → Kept
kept_of xs used = record { places = length xs; held = take used xs }

-- the places that a meaning has
abbrev pub laid : Kept → List Place
laid k = k.held ++ replicate (k.places - length k.held) free

-- places after y took place i and those from there on, before j, have moved up by one
pub record Opened (old new : List Place) (i j : ℕ) (y : Place) : Type 0 where
  pub long : length new ≡ length old
  pub below : (q : ℕ) → q < i → at new q ≡ at old q
  pub there : i < j → at new i ≡ y
  pub moved : (q : ℕ) → i ≤ q → q + 1 < j → at new (q + 1) ≡ at old q
  pub above : (q : ℕ) → j ≤ q → at new q ≡ at old q

-- places after those behind i, up to `used`, have moved down by one and the last of them is free
pub record Closed (old new : List Place) (i used : ℕ) : Type 0 where
  pub long : length new ≡ length old
  pub below : (q : ℕ) → q < i → at new q ≡ at old q
  pub moved : (q : ℕ) → i ≤ q → q + 1 < used → at new q ≡ at old (q + 1)
  pub last : (q : ℕ) → q + 1 ≡ used → at new q ≡ free
  pub above : (q : ℕ) → used ≤ q → at new q ≡ at old q
