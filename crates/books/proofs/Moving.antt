-- Places that move by one.
use Rattle.std.proofs.Common.{◌≡◌, ℕ, zero, suc, ◌+◌, ◌<◌, ◌≤◌, List, length, refl, arith, cond, ◌==◌, set, ◌∙◌, ap, inl, inr, get_or-set_same, get_or-set_other}
use Rattle.std.proofs.lemmas.Bool.{cases_eq, cases_lt}
use Rattle.std.proofs.lemmas.List.{get_or_past}
use Rattle.std.proofs.Math.ListN.{replicate}
use Rattle.books.specs.declared.place.Place.{Place}
use Rattle.books.specs.Places.{free, at}
use Rattle.books.specs.ShelvesKept.{all_free}

-- at is what a place is after one is written
pub set_at : (xs : List Place) (j q : ℕ) (c : Place) → j < length xs → at (set xs j c) q ≡ cond (q == j) c (at xs q)
set_at xs j q c l =
    elim (cases_eq q j) [
      | inl e ↦ (let h = get_or-set_same xs j c free l in grind arith)
      | inr n ↦ (let h = get_or-set_other xs j q c free n in grind arith)
    ]

-- places while those behind i move down by one: so far those before j have
pub record Closing (old new : List Place) (i j : ℕ) : Type 0 where
  pub long : length new ≡ length old
  pub below : (q : ℕ) → q < i → at new q ≡ at old q
  pub moved : (q : ℕ) → i ≤ q → q + 1 < j → at new q ≡ at old (q + 1)
  pub above : (q : ℕ) → j ≤ q + 1 → at new q ≡ at old q

-- the first i places were freed
pub record Freed (old new : List Place) (i : ℕ) : Type 0 where
  pub long : length new ≡ length old
  pub freed : (q : ℕ) → q < i → at new q ≡ free

pub all_freed : (old new : List Place) → Freed old new (length old) → new ≡ replicate (length old) free
all_freed old new f = all_free new each ∙ ap (λ n. replicate n free) f.long
  where
    each : (q : ℕ) → at new q ≡ free
    each q =
        elim (cases_lt q (length old)) [
          | inl l ↦ f.freed q l
          | inr l ↦ get_or_past new q free (rw f.long l)
        ]

-- a free place is told past the last one, too
pub free_at : (n i : ℕ) → at (replicate n free) i ≡ free
free_at zero i = refl
free_at (suc n) zero = refl
free_at (suc n) (suc i) = free_at n i
