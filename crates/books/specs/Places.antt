-- A place of a book. Assumes nothing.
use Rattle.std.specs.Prelude.{ℕ, Bool, false, ◌&&◌, ◌||◌, List, nat_le, slice_index_or, slice_set, unsigned_abs}
use Rattle.std.proofs.Math.ListN.{replicate}
use Rattle.amounts.specs.declared.row.Amounts.{Amounts}
use Rattle.amounts.specs.Triples.{none}
use Rattle.books.specs.declared.place.Place.{Place}

-- no amounts for any entity
abbrev pub zeros : List Amounts
zeros = replicate 64 none

-- what is told of a day that a book does not hold
abbrev pub blank : ℕ → Place
blank d = record { day = d; reserved = false; billed = false; amounts = zeros }

-- a place that no day has
abbrev pub free : Place
free = blank 0

-- place i of a list
abbrev pub at : List Place → ℕ → Place
at xs i = slice_index_or xs i free

-- held days are reserved or were billed; a place that is neither is free
abbrev pub is_taken : Place → Bool
is_taken x = x.reserved || x.billed

abbrev pub marked : Place → Bool → Bool → Place
marked x r b = record { day = x.day; reserved = r; billed = b; amounts = x.amounts }

abbrev pub replaced : Place → ℕ → Amounts → Place
replaced x q a = record { day = x.day; reserved = x.reserved; billed = x.billed; amounts = slice_set x.amounts q a }

-- the most that an amount may lie away from zero
abbrev pub most_amount : ℕ
most_amount = 1000000000000000

abbrev pub in_range : Amounts → Bool
in_range a = nat_le (unsigned_abs a.reactive) most_amount && (nat_le (unsigned_abs a.held) most_amount && nat_le (unsigned_abs a.load) most_amount)
