-- What was written is read back.
use Rattle.std.proofs.Common.{◌≡◌, ℕ, Bool, true, zero, suc, ◌*◌, ◌%◌, ◌<◌, List, [], ◌∷◌, ◌++◌, map, length, arith, refl, ap, ◌∙◌, sym, length-append}
use Rattle.std.specs.Prelude.{slice_index_or, nat_le, ◌==◌, ◌&&◌}
use Rattle.std.specs.List.{flat_map}
use Rattle.std.specs.Int.{w16, to_le_bytes}
use Rattle.std.specs.Simd.{first_chunks}
use Rattle.std.proofs.Math.ListN.{replicate}
use Rattle.std.proofs.lemmas.List.{take_at, drop_at}
use Rattle.std.proofs.lemmas.Nat.{from_le_bytes-to_le_bytes_2}
use Rattle.amounts.specs.declared.row.Amounts.{Amounts}
use Rattle.amounts.specs.Triples.{none}
use Rattle.books.specs.declared.place.Place.{Place}
use Rattle.image.specs.Places.{amounts_bytes, amounts_of, all_amounts, mark, head_bytes, place_bytes, place_of}
use Rattle.image.specs.Laws.{Fits, IsPlace, IsBytes, Written}
use Rattle.image.proofs.Amounts.{Small, small_none, low_small, small_cons, small_append, small_amounts, length-amounts_bytes, amounts_back}

length-all : (xs : List Amounts) → length (flat_map amounts_bytes xs) ≡ 24 * length xs
length-all [] = refl
length-all (x ∷ xs) =
    let h = length-all xs in
    let l = length-amounts_bytes x in
    let k = length-append (amounts_bytes x) (flat_map amounts_bytes xs) in
    omega arith

same_cons : (x y : Amounts) (xs ys : List Amounts) → x ≡ y → xs ≡ ys → x ∷ xs ≡ y ∷ ys
same_cons x y xs ys e f = cc

all_back : (xs : List Amounts) → ((q : ℕ) → Fits (slice_index_or xs q none)) → map amounts_of (first_chunks 24 (length xs) (flat_map amounts_bytes xs)) ≡ xs
all_back [] f = refl
all_back (x ∷ xs) f =
    let h = all_back xs (λ q. f (suc q)) in
    let b = amounts_back x (f 0) in
    let l = length-amounts_bytes x in
    let t = take_at (amounts_bytes x) (flat_map amounts_bytes xs) 24 l in
    let d = drop_at (amounts_bytes x) (flat_map amounts_bytes xs) 24 l in
    same_cons _ _ _ _ (ap amounts_of t ∙ b) (ap (λ z. map amounts_of (first_chunks 24 (length xs) z)) d ∙ h)

reserved_back : (x : Place) → (mark x % 2 == 1) ≡ x.reserved
reserved_back x = grind arith

billed_back : (x : Place) → nat_le 2 (mark x) ≡ x.billed
billed_back x = grind arith

mark_formed : (x : Place) → nat_le (mark x) 3 ≡ true
mark_formed x = grind arith

amounts_read : (x : Place) → IsPlace x → all_amounts (place_bytes x) ≡ x.amounts
unfolding all_amounts place_bytes
amounts_read x p = ap (λ n. map amounts_of (first_chunks 24 n (flat_map amounts_bytes x.amounts))) (sym p.long) ∙ all_back x.amounts p.fits

abbrev made : ℕ → Bool → Bool → List Amounts → Place
made d r b xs = record { day = d; reserved = r; billed = b; amounts = xs }

same_place : (d e : ℕ) (r s b c : Bool) (xs ys : List Amounts) → d ≡ e → r ≡ s → b ≡ c → xs ≡ ys → made d r b xs ≡ made e s c ys
same_place d e r s b c xs ys h i j k = cc

small_all : (xs : List Amounts) → Small (flat_map amounts_bytes xs)
small_all [] = small_none
small_all (x ∷ xs) = small_append (amounts_bytes x) _ (small_amounts x) (small_all xs)

mark_small : (x : Place) → mark x < 256
mark_small x = grind arith

small_zeros : (n : ℕ) → Small (replicate n 0)
small_zeros zero = small_none
small_zeros (suc n) = small_cons 0 (replicate n 0) (omega arith) (small_zeros n)

small_head : (x : Place) → Small (head_bytes x)
small_head x =
    let rest = to_le_bytes w16 x.day ++ replicate 4 0 in
    small_cons (mark x) (0 ∷ rest) (mark_small x) (small_cons 0 rest (omega arith) (small_append (to_le_bytes w16 x.day) (replicate 4 0) (low_small 0 2 x.day) (small_zeros 4)))

small_bytes : (x : Place) → Small (place_bytes x)
unfolding place_bytes
small_bytes x = small_append (head_bytes x) _ (small_head x) (small_all x.amounts)

bytes : (x : Place) → IsPlace x → IsBytes (place_bytes x)
unfolding place_bytes
bytes x p = record {
  long = (let l = length-all x.amounts in let m = p.long in omega arith);
  small = small_bytes x;
  formed = ap (λ b. b && true) (mark_formed x);
}

back : (x : Place) → IsPlace x → place_of (place_bytes x) ≡ x
unfolding place_bytes place_of
back x p = same_place _ _ _ _ _ _ _ _ (from_le_bytes-to_le_bytes_2 x.day (let d = p.day in omega arith)) (reserved_back x) (billed_back x) (amounts_read x p)

pub written : (x : Place) → IsPlace x → Written x
written x p = record { bytes = bytes x p; back = back x p }
