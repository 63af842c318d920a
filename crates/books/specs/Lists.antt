-- A book in a list of records. Assumes nothing.
use Rattle.std.specs.Prelude.{ℕ, []}
use Rattle.books.specs.Kept.{Kept}

-- a new book: no day is held
abbrev pub new_kept : ℕ → Kept
new_kept n = record { places = n; held = [] }
