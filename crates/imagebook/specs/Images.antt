-- What an image means, and the image of what a book keeps. Assumes nothing.
use Rattle.std.specs.Prelude.{◌≡◌, ◌<◌, ◌*◌, slice_index, ℕ, ◌+◌, ◌/◌, List, [], ◌++◌, map, length, take, drop, Some, None, Ok, Err, Option, Result}
use Rattle.std.specs.Simd.{first_chunks}
use Rattle.books.specs.declared.place.Place.{Place}
use Rattle.books.specs.declared.flaw.Flaw.{Flaw}
use Rattle.books.specs.Kept.{Kept}
use Rattle.books.specs.Lists.{new_kept}
use Rattle.books.specs.Stores.{joined, kept_of, laid}
use Rattle.books.specs.Surveys.{surveyed}
use Rattle.image.specs.Places.{place_bytes, place_of}
use Rattle.imagebook.specs.declared.fault.ImageFault.{ImageFault}
use Rattle.imagebook.specs.declared.fault.ImageFault.TheVariants.{Places}
use Rattle.imagebook.specs.Forms.{form_of}

-- xs with ys written over the k elements from the a-th on
abbrev pub over : {X : Type 0} → ℕ → ℕ → List X → List X → List X
over a k xs ys = take a xs ++ (ys ++ drop (a + k) xs)

-- the first n places of bytes
unfoldable pub places_in : ℕ → List ℕ → List Place
places_in n bs = map place_of (first_chunks 1544 n bs)

abbrev pub surveyed_as : Result ℕ Flaw → Result ℕ ImageFault
surveyed_as (Ok u) = Ok u
surveyed_as (Err f) = Err (Places f)

abbrev pub read_by : Result ℕ ImageFault → List ℕ → Result ℕ ImageFault
read_by (Ok n) bs = surveyed_as (surveyed (places_in n bs))
read_by (Err e) bs = Err e

-- THE READING OF AN IMAGE: how many days are held, or the first fault
unfoldable pub image_read : List ℕ → Result ℕ ImageFault
image_read bs = read_by (form_of bs) bs

abbrev pub opened_by : Result ℕ ImageFault → List ℕ → Kept
opened_by (Ok u) bs = kept_of (places_in (length bs / 1544) bs) u
opened_by (Err e) bs = new_kept 0

-- what bytes mean: the book whose image they are, or, where they are no book's, a book of no places
abbrev pub opened : List ℕ → Kept
opened bs = opened_by (image_read bs) bs

abbrev pub fault_of : Result ℕ ImageFault → Option ImageFault
fault_of (Ok u) = None
fault_of (Err e) = Some e

-- what is beside the places: all bytes where they are no book's, else none
abbrev pub beside_by : Result ℕ ImageFault → List ℕ → List ℕ
beside_by (Ok u) bs = []
beside_by (Err e) bs = bs

-- the image of a book that keeps k
unfoldable pub image_of : Kept → List ℕ
image_of k = joined place_bytes (laid k)

-- a book that keeps k can be kept as bytes
pub record Imaged (k : Kept) : Type 0 where
  pub long : length (image_of k) ≡ 1544 * k.places
  pub small : (i : ℕ) → slice_index (image_of k) i < 256
  pub read : image_read (image_of k) ≡ Ok (length k.held)
  pub back : opened (image_of k) ≡ k
