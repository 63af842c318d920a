-- The form of places, looked at one by one.
use Rattle.std.proofs.Common.{◌≡◌, ℕ, ◌+◌, ◌/◌, ◌%◌, ◌<◌, ◌≤◌, List, [], length, get_or, drop, arith, Some, None, Ok, Err}
use Rattle.std.proofs.lemmas.List.{drop_more, drop_all}
use Rattle.books.specs.declared.place.Place.{Place}
use Rattle.image.specs.declared.fault.PlaceFault.{PlaceFault}
use Rattle.image.specs.Faults.{place_read}
use Rattle.imagebook.specs.declared.fault.ImageFault.TheVariants.{Ragged, TooMany, Form}
use Rattle.imagebook.specs.Forms.{pieces, misformed, formed_by, form_of}

module _ (cs : List (List ℕ)) (i : ℕ) where
  pub form_here : (e : PlaceFault) → i < length cs → place_read (get_or cs i []) ≡ Err e → misformed i (drop i cs) ≡ Some (Form i e)
  unfolding misformed
  form_here e l h = let d = drop_more cs i [] l in grind arith

  pub form_later : (x : Place) → i < length cs → place_read (get_or cs i []) ≡ Ok x → misformed (i + 1) (drop (i + 1) cs) ≡ misformed i (drop i cs)
  unfolding misformed
  form_later x l h = let d = drop_more cs i [] l in grind arith

  pub form_nowhere : length cs ≤ i → misformed i (drop i cs) ≡ None
  unfolding misformed
  form_nowhere h = let d = drop_all i cs h in grind arith

pub form_ragged : (bs : List ℕ) → 0 < length bs % 1544 → Err Ragged ≡ form_of bs
unfolding form_of
form_ragged bs h = grind arith

pub form_many : (bs : List ℕ) → length bs % 1544 ≡ 0 → 32 < length bs / 1544 → Err TooMany ≡ form_of bs
unfolding form_of
form_many bs h l = grind arith

pub form_by : (bs : List ℕ) → length bs % 1544 ≡ 0 → length bs / 1544 ≤ 32 → formed_by (misformed 0 (pieces bs)) (length bs / 1544) ≡ form_of bs
unfolding form_of
form_by bs h l = grind arith
