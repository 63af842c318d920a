-- What a reservation answers: a slip for the day. Assumes nothing.
use Rattle.std.specs.Prelude.{ℕ, Ok, Err, Result}
use Rattle.terms.specs.Told.{Told, fine}
use Rattle.books.specs.declared.refusal.BookRefusal.{BookRefusal}
use Rattle.books.specs.Refusals.{numbered}
use Rattle.accounts.specs.declared.slip.Slip.{Slip}

-- the slip's day, or the refusal
abbrev pub told : Result Slip BookRefusal → Told ℕ
told (Ok s) = fine s.day
told (Err e) = numbered e

-- the day that was asked for, where the book reserves it
abbrev pub given : ℕ → Result (Unit {0}) BookRefusal → Told ℕ
given d (Ok x) = fine d
given d (Err e) = numbered e
