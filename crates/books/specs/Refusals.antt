-- The answers of a book: each refusal's number and values. Assumes nothing.
use Rattle.std.specs.Prelude.{ℕ, [], Ok, Err, Result}
use Rattle.terms.specs.Told.{Told, fine, refuse}
use Rattle.books.specs.declared.refusal.BookRefusal.{BookRefusal}
use Rattle.books.specs.declared.refusal.BookRefusal.TheVariants.{OutOfRange, Reserved, Full, NotReserved}

abbrev pub numbered : {X : Type 0} → BookRefusal → Told X
numbered OutOfRange = refuse 8 []
numbered Reserved = refuse 9 []
numbered Full = refuse 10 []
numbered NotReserved = refuse 17 []

abbrev pub told : {X : Type 0} → Result X BookRefusal → Told X
told (Ok x) = fine x
told (Err e) = numbered e

abbrev answer_number : Told ℕ → ℕ
answer_number (fine x) = 0
answer_number (refuse a vs) = a

abbrev pub number_of : BookRefusal → ℕ
number_of e = answer_number (numbered e)
