-- How a reservation is lifted. Assumes nothing.
use Rattle.std.specs.Prelude.{Bool, true, false}
use Rattle.books.specs.declared.book.Lift.{Lift}
use Rattle.books.specs.declared.book.Lift.TheVariants.{AsBilled, AsUnbilled}

abbrev pub as_billed : Lift → Bool
as_billed AsBilled = true
as_billed AsUnbilled = false
