-- What holds of every book, in words. Assumes nothing.
use Rattle.std.specs.Prelude.{◌≡◌, ◌⊎◌, ℕ, ◌+◌, Bool, true, false, ◌||◌, ◌<◌, ◌≤◌, List, [], ◌∷◌, length, Ok, Err, slice_index_or}
use Rattle.std.specs.List.{AllByRecursion}
use Rattle.terms.specs.Limits.{last_day}
use Rattle.amounts.specs.declared.row.Amounts.{Amounts}
use Rattle.amounts.specs.Triples.{none}
use Rattle.books.specs.declared.place.Place.{Place}
use Rattle.books.specs.declared.refusal.BookRefusal.{BookRefusal}
use Rattle.books.specs.declared.refusal.BookRefusal.TheVariants.{OutOfRange, Reserved, Full, NotReserved}
use Rattle.books.specs.Places.{blank, at, is_taken, marked, in_range}
use Rattle.books.specs.Kept.{Kept, entry, holds}
use Rattle.books.specs.Calls.{account, reserving, reading, replacing, lifting}

-- each day is above all before it
abbrev pub Rising : List Place → Type 0
Rising [] = Unit {0}
Rising (x ∷ xs) = AllByRecursion (λ y. x.day < y.day) xs × Rising xs

-- what is kept of a held day
pub record SoundPlace (x : Place) : Type 0 where
  pub day : x.day ≤ last_day
  pub taken : is_taken x ≡ true
  pub long : length x.amounts ≡ 64
  pub ranged : (q : ℕ) → in_range (slice_index_or x.amounts q none) ≡ true

-- what is kept is what a book can keep
pub record Sound (k : Kept) : Type 0 where
  pub few : k.places ≤ 32
  pub fits : length k.held ≤ k.places
  pub rising : Rising k.held
  pub each : AllByRecursion SoundPlace k.held

-- one day is now kept as x, all others as they were
pub record Changed (k : Kept) (d : ℕ) (x : Place) (l : Kept) : Type 0 where
  pub places : l.places ≡ k.places
  pub there : entry l d ≡ x
  pub elsewhere : (e : ℕ) → (e ≡ d → ⊥) → entry l e ≡ entry k e

-- RESERVING, in words: refused, it changes nothing; accepted, the day is reserved, keeps what was kept of it, and no other day changes. A day
-- is refused as reserved just where it is, and for want of a place just where it is not held and every place is taken
pub record Reserves (k : Kept) (d : ℕ) : Type 0 where
  pub refused : (e : BookRefusal) → (reserving k d).answer ≡ Err e → (reserving k d).after ≡ k
  pub changed : (reserving k d).answer ≡ Ok tt → Changed k d (marked (entry k d) true (entry k d).billed) (reserving k d).after
  pub unknown : (reserving k d).answer ≡ Err OutOfRange → last_day < d
  pub twice : (reserving k d).answer ≡ Err Reserved → (entry k d).reserved ≡ true
  pub full : (reserving k d).answer ≡ Err Full → (holds k d ≡ false) × (length k.held ≡ k.places)
  pub given : d ≤ last_day → (entry k d).reserved ≡ false → (holds k d ≡ true) ⊎ (length k.held < k.places) → (reserving k d).answer ≡ Ok tt
  pub again : d ≤ last_day → (entry k d).reserved ≡ true → (reserving k d).answer ≡ Err Reserved
  pub taken : d ≤ last_day → holds k d ≡ false → length k.held ≡ k.places → (reserving k d).answer ≡ Err Full
  pub outside : last_day < d → (reserving k d).answer ≡ Err OutOfRange

-- READING, in words: a day that is not held has no mark and no amounts, and one that is has its own. A day or an entity is refused just where
-- it is out of range
pub record Reads (k : Kept) (d q : ℕ) : Type 0 where
  pub unknown : reading k d q ≡ Err OutOfRange → (last_day < d) ⊎ (64 ≤ q)
  pub outside : (last_day < d) ⊎ (64 ≤ q) → reading k d q ≡ Err OutOfRange
  pub absent : d ≤ last_day → q < 64 → holds k d ≡ false → reading k d q ≡ Ok (record { reserved = false; billed = false; amounts = none })
  pub held : (i : ℕ) → i < length k.held → q < 64 → reading k (at k.held i).day q ≡ Ok (account (at k.held i) q)

-- REPLACING, in words: refused, it changes nothing; accepted, what was put is what is read, and all else is read as before. It is refused as out
-- of range just where the day, the entity or the amounts are, and else for want of a reservation just where the day is not reserved
pub record Replaces (k : Kept) (d q : ℕ) (a : Amounts) : Type 0 where
  pub refused : (e : BookRefusal) → (replacing k d q a).answer ≡ Err e → (replacing k d q a).after ≡ k
  pub there : (replacing k d q a).answer ≡ Ok tt → reading (replacing k d q a).after d q ≡ Ok (record { reserved = true; billed = (entry k d).billed; amounts = a })
  pub elsewhere : (e r : ℕ) → ((e ≡ d) × (r ≡ q) → ⊥) → reading (replacing k d q a).after e r ≡ reading k e r
  pub same : (e : ℕ) → holds (replacing k d q a).after e ≡ holds k e
  pub places : (replacing k d q a).after.places ≡ k.places
  pub given : d ≤ last_day → q < 64 → in_range a ≡ true → (entry k d).reserved ≡ true → (replacing k d q a).answer ≡ Ok tt
  pub needed : (replacing k d q a).answer ≡ Err NotReserved → (entry k d).reserved ≡ false
  pub unreserved : d ≤ last_day → q < 64 → in_range a ≡ true → (entry k d).reserved ≡ false → (replacing k d q a).answer ≡ Err NotReserved
  pub unknown : (replacing k d q a).answer ≡ Err OutOfRange → (last_day < d) ⊎ ((64 ≤ q) ⊎ (in_range a ≡ false))
  pub outside : (last_day < d) ⊎ ((64 ≤ q) ⊎ (in_range a ≡ false)) → (replacing k d q a).answer ≡ Err OutOfRange

-- LIFTING, in words: refused, it changes nothing; accepted, the day is reserved no more; as billed it is marked billed, as unbilled a day that
-- was billed before stays as it is and one that never was gives its place back; and no other day changes. A day is refused as out of range just
-- where it is, and else for want of a reservation just where it is not reserved
pub record Lifts (k : Kept) (d : ℕ) (as_billed : Bool) : Type 0 where
  pub refused : (e : BookRefusal) → (lifting k d as_billed).answer ≡ Err e → (lifting k d as_billed).after ≡ k
  pub billed : (lifting k d as_billed).answer ≡ Ok tt → (as_billed || (entry k d).billed) ≡ true → Changed k d (marked (entry k d) false true) (lifting k d as_billed).after
  pub freed : (lifting k d as_billed).answer ≡ Ok tt → (as_billed || (entry k d).billed) ≡ false → Changed k d (blank d) (lifting k d as_billed).after × (length (lifting k d as_billed).after.held + 1 ≡ length k.held)
  pub needed : (lifting k d as_billed).answer ≡ Err NotReserved → (entry k d).reserved ≡ false
  pub given : d ≤ last_day → (entry k d).reserved ≡ true → (lifting k d as_billed).answer ≡ Ok tt
  pub unreserved : d ≤ last_day → (entry k d).reserved ≡ false → (lifting k d as_billed).answer ≡ Err NotReserved
  pub unknown : (lifting k d as_billed).answer ≡ Err OutOfRange → last_day < d
  pub outside : last_day < d → (lifting k d as_billed).answer ≡ Err OutOfRange
