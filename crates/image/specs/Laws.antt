-- What holds of the bytes of every place. Assumes nothing.
use Rattle.std.specs.Prelude.{◌≡◌, ℕ, true, ◌<◌, ◌≤◌, List, length, slice_index, slice_index_or, FitsSigned}
use Rattle.std.specs.Int.{w64}
use Rattle.terms.specs.Limits.{last_day}
use Rattle.amounts.specs.declared.row.Amounts.{Amounts}
use Rattle.amounts.specs.Triples.{none}
use Rattle.books.specs.declared.place.Place.{Place}
use Rattle.image.specs.Places.{place_bytes, place_of, is_formed}

-- each amount fits 64 bits
pub record Fits (a : Amounts) : Type 0 where
  pub reactive : FitsSigned w64 a.reactive
  pub held : FitsSigned w64 a.held
  pub load : FitsSigned w64 a.load

-- what a place in memory can be
pub record IsPlace (x : Place) : Type 0 where
  pub day : x.day ≤ last_day
  pub long : length x.amounts ≡ 64
  pub fits : (q : ℕ) → Fits (slice_index_or x.amounts q none)

-- what the bytes of a place can be
pub record IsBytes (bs : List ℕ) : Type 0 where
  pub long : length bs ≡ 1544
  pub small : (i : ℕ) → slice_index bs i < 256
  pub formed : is_formed bs ≡ true

-- a place that is written is read back
pub record Written (x : Place) : Type 0 where
  pub bytes : IsBytes (place_bytes x)
  pub back : place_of (place_bytes x) ≡ x

-- bytes that are read are written back
pub record Read (bs : List ℕ) : Type 0 where
  pub place : IsPlace (place_of bs)
  pub back : place_bytes (place_of bs) ≡ bs
