-- The image of what a book keeps, read.
use Rattle.std.proofs.Common.{◌≡◌, ℕ, zero, suc, ◌-◌, ◌*◌, ◌/◌, ◌%◌, ◌<◌, ◌≤◌, true, List, [], ◌∷◌, ◌++◌, map, length, get_or, take, drop, arith, refl, sym, ap, subst, ◌∙◌, Ok, Err, None, Result, length-append, length-take-le, length-drop}
use Rattle.std.proofs.lemmas.Int.{fits_signed_from_abs}
use Rattle.std.proofs.lemmas.List.{take_at, drop_at, length-replicate, replicate-append-replicate, take_all}
use Rattle.std.proofs.Math.ListN.{replicate}
use Rattle.std.specs.Int.{w64}
use Rattle.std.specs.List.{AllByRecursion, flat_map}
use Rattle.std.specs.Simd.{first_chunks}
use Rattle.amounts.specs.declared.row.Amounts.{Amounts}
use Rattle.amounts.specs.Triples.{none}
use Rattle.books.specs.declared.place.Place.{Place}
use Rattle.books.specs.declared.flaw.Flaw.{Flaw}
use Rattle.books.specs.Places.{free, at, in_range}
use Rattle.books.specs.Kept.{Kept}
use Rattle.books.specs.Laws.{SoundPlace, Sound}
use Rattle.books.specs.Lists.{new_kept}
use Rattle.books.specs.Stores.{joined, kept_of, laid}
use Rattle.books.specs.Surveys.{Shaped, Memory, surveyed}
use Rattle.books.proofs.Standing.{passes, sound, places}
use Rattle.image.specs.Places.{word, amounts_bytes, head_bytes, place_bytes, place_of, is_formed}
use Rattle.image.specs.Faults.{place_read}
use Rattle.image.specs.Laws.{Fits, IsPlace, IsBytes, Written}
use Rattle.image.proofs.Amounts.{Small, small_none, small_append, small_take, small_drop}
use Rattle.image.proofs.Back.{written}
use Rattle.image.proofs.Exact.{read, none_fits}
use Rattle.imagebook.specs.declared.fault.ImageFault.{ImageFault}
use Rattle.imagebook.specs.Forms.{pieces, all_formed, misformed, formed_by, form_of}
use Rattle.imagebook.specs.Images.{places_in, surveyed_as, read_by, image_read, opened_by, opened, image_of, Imaged}
use Rattle.imagebook.specs.ImagesKept.{length-places_in, front, and_first, and_second}
use Rattle.imagebook.proofs.Forming.{form_by}
use Rattle.imagebook.proofs.Meaning.{InForm, in_form, all_formed_by, read_held, opened_held}

-- ---- what a book keeps can be written

fits_by : (a : Amounts) → in_range a ≡ true → Fits a
fits_by a h = record {
  reactive = fits_signed_from_abs w64 a.reactive (grind arith);
  held = fits_signed_from_abs w64 a.held (grind arith);
  load = fits_signed_from_abs w64 a.load (grind arith);
}

place_by : (x : Place) → SoundPlace x → IsPlace x
place_by x s = record { day = s.day; long = s.long; fits = λ q. fits_by (get_or x.amounts q none) (s.ranged q) }

none_at : (n q : ℕ) → get_or (replicate n none) q none ≡ none
none_at zero q = refl
none_at (suc n) zero = refl
none_at (suc n) (suc q) = none_at n q

free_place : IsPlace free
free_place = record { day = omega arith; long = length-replicate 64 none; fits = λ q. subst Fits (sym (none_at 64 q)) none_fits }

all_held : (xs : List Place) → AllByRecursion SoundPlace xs → AllByRecursion Written xs
all_held [] a = tt
all_held (x ∷ xs) a = (written x (place_by x a.0), all_held xs a.1)

all_free : (n : ℕ) → AllByRecursion Written (replicate n free)
all_free zero = tt
all_free (suc n) = (written free free_place, all_free n)

all_append : (xs ys : List Place) → AllByRecursion Written xs → AllByRecursion Written ys → AllByRecursion Written (xs ++ ys)
all_append [] ys a b = b
all_append (x ∷ xs) ys a b = (a.0, all_append xs ys a.1 b)

all_laid : (k : Kept) → Sound k → AllByRecursion Written (laid k)
all_laid k s = all_append k.held (replicate (k.places - length k.held) free) (all_held k.held s.each) (all_free (k.places - length k.held))

-- ---- the bytes of places that can be written

length-joined : (xs : List Place) → AllByRecursion Written xs → length (joined place_bytes xs) ≡ 1544 * length xs
unfolding joined
length-joined [] a = refl
length-joined (x ∷ xs) a =
    let h = length-joined xs a.1 in
    let l = a.0.bytes.long in
    omega (arith, h, l, length-append (place_bytes x) (joined place_bytes xs))

small_joined : (xs : List Place) → AllByRecursion Written xs → Small (joined place_bytes xs)
unfolding joined
small_joined [] a = small_none
small_joined (x ∷ xs) a = small_append (place_bytes x) (joined place_bytes xs) a.0.bytes.small (small_joined xs a.1)

same_cons : {X : Type 0} (x y : X) (xs ys : List X) → x ≡ y → xs ≡ ys → x ∷ xs ≡ y ∷ ys
same_cons x y xs ys e f = cc

chunks_joined : (xs : List Place) → AllByRecursion Written xs → first_chunks 1544 (length xs) (joined place_bytes xs) ≡ map place_bytes xs
unfolding joined
chunks_joined [] a = refl
chunks_joined (x ∷ xs) a =
    let l = a.0.bytes.long in
    same_cons _ _ _ _ (take_at (place_bytes x) (joined place_bytes xs) 1544 l) (ap (first_chunks 1544 (length xs)) (drop_at (place_bytes x) (joined place_bytes xs) 1544 l) ∙ chunks_joined xs a.1)

read_back : (xs : List Place) → AllByRecursion Written xs → map place_of (map place_bytes xs) ≡ xs
read_back [] a = refl
read_back (x ∷ xs) a = same_cons _ _ _ _ a.0.back (read_back xs a.1)

formed_ok : (b : List ℕ) → is_formed b ≡ true → place_read b ≡ Ok (place_of b)
formed_ok b h = grind arith

form_next : (b : List ℕ) (i : ℕ) (cs : List (List ℕ)) → is_formed b ≡ true → misformed i (b ∷ cs) ≡ misformed (suc i) cs
unfolding misformed
form_next b i cs h = let r = formed_ok b h in grind arith

none_misformed : (i : ℕ) (xs : List Place) → AllByRecursion Written xs → misformed i (map place_bytes xs) ≡ None
unfolding misformed
none_misformed i [] a = refl
none_misformed i (x ∷ xs) a = form_next (place_bytes x) i (map place_bytes xs) a.0.bytes.formed ∙ none_misformed (suc i) xs a.1

-- ---- the image of a book

abbrev kept : ℕ → List Place → Kept
kept n xs = record { places = n; held = xs }

same_kept : (m n : ℕ) (xs ys : List Place) → m ≡ n → xs ≡ ys → kept m xs ≡ kept n ys
same_kept m n xs ys e f = cc

length-laid : (k : Kept) → Sound k → length (laid k) ≡ k.places
length-laid k s =
    let f = s.fits in
    omega (arith, f, length-append k.held (replicate (k.places - length k.held) free), length-replicate (k.places - length k.held) free)

module _ (k : Kept) (s : Sound k) where
  written_all : AllByRecursion Written (laid k)
  written_all = all_laid k s

  long : length (image_of k) ≡ 1544 * k.places
  unfolding image_of
  long = length-joined (laid k) written_all ∙ ap (λ n. 1544 * n) (length-laid k s)

  count : length (image_of k) / 1544 ≡ k.places
  count = let l = long in omega (arith, l)

  whole : length (image_of k) % 1544 ≡ 0
  whole = let l = long in omega (arith, l)

  pieces_are : first_chunks 1544 k.places (image_of k) ≡ map place_bytes (laid k)
  unfolding image_of
  pieces_are = ap (λ n. first_chunks 1544 n (joined place_bytes (laid k))) (sym (length-laid k s)) ∙ chunks_joined (laid k) written_all

  pub places_are : places_in k.places (image_of k) ≡ laid k
  unfolding places_in
  places_are = ap (map place_of) pieces_are ∙ read_back (laid k) written_all

  form_is : form_of (image_of k) ≡ Ok k.places
  form_is =
      let c = count in
      let f = s.few in
      let m : misformed 0 (pieces (image_of k)) ≡ None = ap (λ n. misformed 0 (first_chunks 1544 n (image_of k))) count ∙ ap (misformed 0) pieces_are ∙ none_misformed 0 (laid k) written_all in
      sym (form_by (image_of k) whole (omega (arith, c, f))) ∙ ap (λ o. formed_by o (length (image_of k) / 1544)) m ∙ ap Ok count

  read_is : image_read (image_of k) ≡ Ok (length k.held)
  read_is = read_held (image_of k) k.places form_is (length k.held) (ap surveyed places_are ∙ passes k s)

  kept_is : kept_of (laid k) (length k.held) ≡ k
  kept_is =
      let p = length-laid k s in
      let h = take_at k.held (replicate (k.places - length k.held) free) (length k.held) refl in
      same_kept _ _ _ _ p h

  back : opened (image_of k) ≡ k
  back = ap (λ r. opened_by r (image_of k)) read_is ∙ ap (λ n. kept_of (places_in n (image_of k)) (length k.held)) count ∙ ap (λ xs. kept_of xs (length k.held)) places_are ∙ kept_is

  pub imaged : Imaged k
  unfolding image_of
  imaged = record { long = long; small = small_joined (laid k) written_all; read = read_is; back = back }

-- ---- the image of what bytes mean

shaped_at : (n : ℕ) (bs : List ℕ) → 1544 * n ≤ length bs → Small bs → all_formed (first_chunks 1544 n bs) ≡ true → (q : ℕ) → q < n → Shaped (at (map place_of (first_chunks 1544 n bs)) q)
unfolding all_formed
shaped_at zero bs l s f q h = absurd (omega (arith, h))
shaped_at (suc n) bs l s f zero h =
    let b : IsBytes (take 1544 bs) = record { long = length-take-le 1544 bs (omega (arith, l)); small = small_take 1544 bs s; formed = and_first _ _ f } in
    let p = (read (take 1544 bs) b).place in
    record { day = p.day; long = p.long }
shaped_at (suc n) bs l s f (suc q) h = shaped_at n (drop 1544 bs) (omega (arith, l, length-drop 1544 bs)) (small_drop 1544 bs s) (and_second _ _ f) q (omega (arith, h))

-- an image that is read: its form, and what the survey says of its places
record Told (bs : List ℕ) (u : ℕ) : Type 0 where
  n : ℕ
  form : form_of bs ≡ Ok n
  held : surveyed (places_in n bs) ≡ Ok u

surveyed_ok : (r : Result ℕ Flaw) (u : ℕ) → surveyed_as r ≡ Ok u → r ≡ Ok u
surveyed_ok (Ok v) u h = grind arith
surveyed_ok (Err f) u h = absurd (grind arith)

told_by : (bs : List ℕ) (r : Result ℕ ImageFault) (u : ℕ) → form_of bs ≡ r → read_by r bs ≡ Ok u → Told bs u
told_by bs (Ok n) u f h = record { n = n; form = f; held = surveyed_ok _ u h }
told_by bs (Err e) u f h = absurd (grind arith)

module _ (bs : List ℕ) (u : ℕ) (s : Small bs) (h : image_read bs ≡ Ok u) where
  told : Told bs u
  unfolding image_read
  told = told_by bs (form_of bs) u refl h

  inside : InForm bs told.n
  inside = in_form bs told.n told.form

  within : 1544 * told.n ≤ length bs
  within = let c = inside.count in omega (arith, c)

  formed : all_formed (first_chunks 1544 told.n bs) ≡ true
  formed = ap (λ k. all_formed (first_chunks 1544 k bs)) inside.count ∙ all_formed_by 0 (pieces bs) inside.formed

  memory : Memory (places_in told.n bs)
  unfolding places_in
  memory q l = shaped_at told.n bs within s formed q (subst (λ k. q < k) (length-places_in told.n bs) l)

  opened_is : opened bs ≡ kept_of (places_in told.n bs) u
  opened_is = sym (opened_held bs told.n told.form u told.held)

  pub read_sound : Sound (opened bs)
  read_sound = subst Sound (sym opened_is) (sound (places_in told.n bs) u memory (let e = length-places_in told.n bs in let f = inside.few in omega (arith, e, f)) told.held)

  pub read_exact : image_of (opened bs) ≡ bs
  unfolding image_of
  read_exact =
      let c = inside.count in
      let w = inside.whole in
      ap (λ k. joined place_bytes (laid k)) opened_is
      ∙ ap (joined place_bytes) (places (places_in told.n bs) u memory told.held)
      ∙ front told.n bs within s formed
      ∙ take_all (1544 * told.n) bs (omega (arith, c, w))

-- ---- the image of a new book

none_24 : amounts_bytes none ≡ replicate 24 0
unfolding word
none_24 = refl

none_bytes : (n : ℕ) → flat_map amounts_bytes (replicate n none) ≡ replicate (24 * n) 0
none_bytes zero = refl
none_bytes (suc n) = ap (λ z. amounts_bytes none ++ z) (none_bytes n) ∙ ap (λ z. z ++ replicate (24 * n) 0) none_24 ∙ replicate-append-replicate 24 (24 * n) 0 ∙ ap (λ m. replicate m 0) (omega arith)

free_bytes : place_bytes free ≡ replicate 1544 0
unfolding place_bytes
free_bytes = ap (λ z. head_bytes free ++ z) (none_bytes 64) ∙ replicate-append-replicate 8 1536 0

joined_free : (n : ℕ) → joined place_bytes (replicate n free) ≡ replicate (1544 * n) 0
unfolding joined
joined_free zero = refl
joined_free (suc n) = ap (λ z. z ++ joined place_bytes (replicate n free)) free_bytes ∙ ap (λ z. replicate 1544 0 ++ z) (joined_free n) ∙ replicate-append-replicate 1544 (1544 * n) 0 ∙ ap (λ m. replicate m 0) (omega arith)

pub cleared : (n : ℕ) → image_of (new_kept n) ≡ replicate (1544 * n) 0
unfolding image_of
cleared n = ap (λ m. joined place_bytes (replicate m free)) {x = n - 0} {y = n} (omega arith) ∙ joined_free n

new_sound : (n : ℕ) → n ≤ 32 → Sound (new_kept n)
new_sound n l = record { few = l; fits = omega arith; rising = tt; each = tt }

-- zeros open as a new book
pub zeros_open : (n : ℕ) → n ≤ 32 → opened (replicate (1544 * n) 0) ≡ new_kept n
zeros_open n l = ap opened (sym (cleared n)) ∙ (imaged (new_kept n) (new_sound n l)).back
