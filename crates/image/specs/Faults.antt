-- How the bytes of a place are read. Assumes nothing.
use Rattle.std.specs.Prelude.{ℕ, cond, List, Ok, Err, Result}
use Rattle.books.specs.declared.place.Place.{Place}
use Rattle.image.specs.declared.fault.PlaceFault.{PlaceFault}
use Rattle.image.specs.declared.fault.PlaceFault.TheVariants.{Mark, Filler}
use Rattle.image.specs.Places.{place_of, is_marked, is_filled}

-- the mark is looked at first
abbrev pub place_read : List ℕ → Result Place PlaceFault
place_read bs = cond (is_marked bs) (cond (is_filled bs) (Ok (place_of bs)) (Err Filler)) (Err Mark)
