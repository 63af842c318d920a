-- What an image means, by its form and its places.
use Rattle.std.proofs.Common.{◌≡◌, ℕ, suc, ◌*◌, ◌/◌, ◌%◌, ◌≤◌, true, List, [], ◌∷◌, length, drop, arith, refl, sym, ap, ◌∙◌, None, Ok, Err}
use Rattle.std.proofs.lemmas.List.{drop_all}
use Rattle.books.specs.declared.flaw.Flaw.{Flaw}
use Rattle.books.specs.Lists.{new_kept}
use Rattle.books.specs.Stores.{kept_of}
use Rattle.books.specs.Surveys.{surveyed}
use Rattle.image.specs.Places.{is_formed}
use Rattle.imagebook.specs.declared.fault.ImageFault.{ImageFault}
use Rattle.imagebook.specs.declared.fault.ImageFault.TheVariants.{Places}
use Rattle.imagebook.specs.Forms.{pieces, all_formed, misformed, form_of}
use Rattle.imagebook.specs.Images.{places_in, image_read, opened, beside_by}

-- what the form says of an image that is in form
pub record InForm (bs : List ℕ) (n : ℕ) : Type 0 where
  pub count : n ≡ length bs / 1544
  pub whole : length bs % 1544 ≡ 0
  pub few : n ≤ 32
  pub formed : misformed 0 (pieces bs) ≡ None

pub in_form : (bs : List ℕ) (n : ℕ) → form_of bs ≡ Ok n → InForm bs n
unfolding form_of
in_form bs n h = record { count = grind arith; whole = grind arith; few = grind arith; formed = grind arith }

formed_read : (b : List ℕ) (i : ℕ) (cs : List (List ℕ)) → misformed i (b ∷ cs) ≡ None → (is_formed b ≡ true) × (misformed (suc i) cs ≡ None)
unfolding misformed
formed_read b i cs h = grind arith

pub all_formed_by : (i : ℕ) (cs : List (List ℕ)) → misformed i cs ≡ None → all_formed cs ≡ true
unfolding all_formed
all_formed_by i [] h = refl
all_formed_by i (b ∷ cs) h = let r = formed_read b i cs h in let g = all_formed_by (suc i) cs r.1 in let a = r.0 in grind arith

-- an image in form, by what the survey says
module _ (bs : List ℕ) (n : ℕ) (h : form_of bs ≡ Ok n) where
  pub read_held : (u : ℕ) → surveyed (places_in n bs) ≡ Ok u → image_read bs ≡ Ok u
  unfolding image_read
  read_held u s = grind arith

  pub read_flawed : (f : Flaw) → surveyed (places_in n bs) ≡ Err f → image_read bs ≡ Err (Places f)
  unfolding image_read
  read_flawed f s = grind arith

  pub opened_held : (u : ℕ) → surveyed (places_in n bs) ≡ Ok u → kept_of (places_in n bs) u ≡ opened bs
  opened_held u s = let r = read_held u s in let c = (in_form bs n h).count in grind arith

  pub beside_held : (u : ℕ) → surveyed (places_in n bs) ≡ Ok u → drop (1544 * n) bs ≡ beside_by (image_read bs) bs
  beside_held u s =
      let f = in_form bs n h in
      let c = f.count in
      let w = f.whole in
      drop_all (1544 * n) bs (omega (arith, c, w)) ∙ ap (λ r. beside_by r bs) (sym (read_held u s))

pub read_unformed : (bs : List ℕ) (e : ImageFault) → form_of bs ≡ Err e → image_read bs ≡ Err e
unfolding image_read
read_unformed bs e h = grind arith

pub opened_err : (bs : List ℕ) (e : ImageFault) → image_read bs ≡ Err e → opened bs ≡ new_kept 0
opened_err bs e h = grind arith

pub beside_err : (bs : List ℕ) (e : ImageFault) → image_read bs ≡ Err e → beside_by (image_read bs) bs ≡ bs
beside_err bs e h = grind arith

pub none_placed : (n : ℕ) (bs : List ℕ) → n ≡ 0 → drop (1544 * n) bs ≡ bs
none_placed n bs e = ap (λ k. drop (1544 * k) bs) e
