-- The form of a whole image. Assumes nothing.
use Rattle.std.specs.Prelude.{ℕ, suc, ◌/◌, ◌%◌, Bool, true, cond, ◌&&◌, List, [], ◌∷◌, length, ◌==◌, nat_lt, Some, None, Ok, Err, Option, Result}
use Rattle.std.specs.Simd.{first_chunks}
use Rattle.books.specs.declared.place.Place.{Place}
use Rattle.image.specs.declared.fault.PlaceFault.{PlaceFault}
use Rattle.image.specs.Places.{is_formed}
use Rattle.image.specs.Faults.{place_read}
use Rattle.imagebook.specs.declared.fault.ImageFault.{ImageFault}
use Rattle.imagebook.specs.declared.fault.ImageFault.TheVariants.{Ragged, TooMany, Form}

-- the whole places of bytes
abbrev pub pieces : List ℕ → List (List ℕ)
pieces bs = first_chunks 1544 (length bs / 1544) bs

unfoldable pub all_formed : List (List ℕ) → Bool
all_formed [] = true
all_formed (b ∷ bs) = is_formed b && all_formed bs

abbrev misformed_by : Result Place PlaceFault → ℕ → Option ImageFault → Option ImageFault
misformed_by (Ok x) i later = later
misformed_by (Err e) i later = Some (Form i e)

-- the first of these places, which begin at the i-th, whose bytes are in no form
unfoldable pub misformed : ℕ → List (List ℕ) → Option ImageFault
misformed i [] = None
misformed i (b ∷ bs) = misformed_by (place_read b) i (misformed (suc i) bs)

abbrev pub formed_by : Option ImageFault → ℕ → Result ℕ ImageFault
formed_by None n = Ok n
formed_by (Some e) n = Err e

-- THE FORM: how many places there are, or the first fault
unfoldable pub form_of : List ℕ → Result ℕ ImageFault
form_of bs =
    cond (length bs % 1544 == 0)
    (cond (nat_lt 32 (length bs / 1544)) (Err TooMany) (formed_by (misformed 0 (pieces bs)) (length bs / 1544)))
    (Err Ragged)
