-- What each call on a book answers and leaves. Assumes nothing.
use Rattle.std.specs.Prelude.{ℕ, Bool, true, false, cond, not, ◌||◌, length, Ok, Err, Result, nat_le, nat_lt, slice_index_or}
use Rattle.terms.specs.Limits.{last_day}
use Rattle.amounts.specs.declared.row.Amounts.{Amounts}
use Rattle.amounts.specs.Triples.{none}
use Rattle.books.specs.declared.account.Account.{Account}
use Rattle.books.specs.declared.place.Place.{Place}
use Rattle.books.specs.declared.refusal.BookRefusal.{BookRefusal}
use Rattle.books.specs.declared.refusal.BookRefusal.TheVariants.{OutOfRange, Reserved, Full, NotReserved}
use Rattle.books.specs.Places.{marked, replaced, in_range}
use Rattle.books.specs.Kept.{Kept, entry, holds, put, cut}

-- an answer, and what is kept after it
pub record Done : Type 0 where
  pub answer : Result (Unit {0}) BookRefusal
  pub after : Kept

abbrev pub refused : BookRefusal → Kept → Done
refused e k = record { answer = Err e; after = k }

abbrev pub accepted : Kept → Done
accepted k = record { answer = Ok tt; after = k }

-- a day is reserved: it takes a place where it is not held, and keeps the rest where it is
unfoldable pub reserving : Kept → ℕ → Done
reserving k d =
    cond (nat_lt last_day d) (refused OutOfRange k)
    (cond (entry k d).reserved (refused Reserved k)
    (cond (holds k d || nat_lt (length k.held) k.places)
    (accepted (put k (marked (entry k d) true (entry k d).billed)))
    (refused Full k)))

abbrev pub account : Place → ℕ → Account
account x q = record { reserved = x.reserved; billed = x.billed; amounts = slice_index_or x.amounts q none }

-- a day and an entity are read; a day that is not held has no mark and no amounts
unfoldable pub reading : Kept → ℕ → ℕ → Result Account BookRefusal
reading k d q = cond (nat_lt last_day d || nat_le 64 q) (Err OutOfRange) (Ok (account (entry k d) q))

-- an entity's amounts are replaced on a reserved day
unfoldable pub replacing : Kept → ℕ → ℕ → Amounts → Done
replacing k d q a =
    cond (nat_lt last_day d || (nat_le 64 q || not (in_range a))) (refused OutOfRange k)
    (cond (entry k d).reserved (accepted (put k (replaced (entry k d) q a))) (refused NotReserved k))

-- a reservation is lifted, as billed or as unbilled: unbilled, a day that was never billed is held no more
unfoldable pub lifting : Kept → ℕ → Bool → Done
lifting k d as_billed =
    cond (nat_lt last_day d) (refused OutOfRange k)
    (cond (entry k d).reserved
    (cond (as_billed || (entry k d).billed) (accepted (put k (marked (entry k d) false true))) (accepted (cut k d)))
    (refused NotReserved k))
