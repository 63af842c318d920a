-- What was read is written back.
use Rattle.std.proofs.Common.{◌≡◌, ℕ, w64, true, zero, suc, ◌+◌, ◌*◌, ◌%◌, ◌/◌, ◌≤◌, List, ◌∷◌, ◌++◌, map, length, get_or, take, drop, arith, ◌∙◌, sym, length-drop}
use Rattle.std.specs.Prelude.{pos, FitsSigned, slice_index_or, nat_le, ◌==◌, cond}
use Rattle.std.specs.List.{flat_map}
use Rattle.std.specs.Simd.{first_chunks}
use Rattle.std.proofs.lemmas.List.{length-map, take-append-drop, length-take, drop_more, nil_from_length}
use Rattle.image.specs.Places.{amounts_bytes, amounts_of, all_amounts, place_bytes, place_of, is_formed}
use Rattle.image.specs.Laws.{Fits, IsPlace, IsBytes, Read}
use Rattle.image.proofs.Amounts.{Small, small_take, small_drop, amounts_exact, amounts_fit}
use Rattle.image.proofs.Reading.{length-first_chunks}
use Rattle.amounts.specs.Triples.{none}

same_join : (xs ys us vs : List ℕ) → xs ≡ us → ys ≡ vs → xs ++ ys ≡ us ++ vs
same_join xs ys us vs e f = cc

all_exact : (n : ℕ) (bs : List ℕ) → length bs ≡ 24 * n → Small bs → flat_map amounts_bytes (map amounts_of (first_chunks 24 n bs)) ≡ bs
all_exact zero bs l h = sym (nil_from_length bs (omega arith))
all_exact (suc n) bs l h =
    let x = amounts_exact (take 24 bs) (omega (arith, length-take 24 bs)) (small_take 24 bs h) in
    let y = all_exact n (drop 24 bs) (omega (arith, length-drop 24 bs)) (small_drop 24 bs h) in
    same_join _ _ _ _ x y ∙ take-append-drop 24 bs

eight : (bs : List ℕ) → 8 ≤ length bs → bs ≡ get_or bs 0 0 ∷ get_or bs 1 0 ∷ get_or bs 2 0 ∷ get_or bs 3 0 ∷ get_or bs 4 0 ∷ get_or bs 5 0 ∷ get_or bs 6 0 ∷ get_or bs 7 0 ∷ drop 8 bs
eight bs l =
    let a = drop_more bs 0 0 (omega arith) in
    let b = drop_more bs 1 0 (omega arith) in
    let c = drop_more bs 2 0 (omega arith) in
    let d = drop_more bs 3 0 (omega arith) in
    let e = drop_more bs 4 0 (omega arith) in
    let f = drop_more bs 5 0 (omega arith) in
    let g = drop_more bs 6 0 (omega arith) in
    let h = drop_more bs 7 0 (omega arith) in
    cc

marked : (m : ℕ) → nat_le m 3 ≡ true → cond (m % 2 == 1) 1 0 + cond (nat_le 2 m) 2 0 ≡ m
marked m h = grind arith

-- what the form says of the head
record Head (bs : List ℕ) : Type 0 where
  mark : nat_le (get_or bs 0 0) 3 ≡ true
  one : get_or bs 1 0 ≡ 0
  four : get_or bs 4 0 ≡ 0
  five : get_or bs 5 0 ≡ 0
  six : get_or bs 6 0 ≡ 0
  seven : get_or bs 7 0 ≡ 0

head : (bs : List ℕ) → is_formed bs ≡ true → Head bs
head bs h = record { mark = grind arith; one = grind arith; four = grind arith; five = grind arith; six = grind arith; seven = grind arith }

amounts_written : (bs : List ℕ) → IsBytes bs → flat_map amounts_bytes (all_amounts bs) ≡ drop 8 bs
unfolding all_amounts
amounts_written bs p =
    let l = p.long in
    all_exact 64 (drop 8 bs) (omega (arith, length-drop 8 bs)) (small_drop 8 bs p.small)

exact : (bs : List ℕ) → IsBytes bs → place_bytes (place_of bs) ≡ bs
unfolding place_bytes place_of
exact bs p =
    let f = head bs p.formed in
    let l = p.long in
    let m = marked (get_or bs 0 0) f.mark in
    let low = p.small 2 in
    let high = p.small 3 in
    let lo : (get_or bs 2 0 + get_or bs 3 0 * 256) % 256 ≡ get_or bs 2 0 = omega arith in
    let hi : (get_or bs 2 0 + get_or bs 3 0 * 256) / 256 % 256 ≡ get_or bs 3 0 = omega arith in
    let r = amounts_written bs p in
    let e = eight bs (omega arith) in
    cc

zero_fits : FitsSigned w64 (pos 0)
zero_fits = record { sfits = omega arith }

pub none_fits : Fits none
none_fits = record { reactive = zero_fits; held = zero_fits; load = zero_fits }

all_fit : (n : ℕ) (bs : List ℕ) → Small bs → (q : ℕ) → Fits (slice_index_or (map amounts_of (first_chunks 24 n bs)) q none)
all_fit zero bs h q = none_fits
all_fit (suc n) bs h zero = amounts_fit (take 24 bs) (small_take 24 bs h)
all_fit (suc n) bs h (suc q) = all_fit n (drop 24 bs) (small_drop 24 bs h) q

is_place : (bs : List ℕ) → IsBytes bs → IsPlace (place_of bs)
unfolding place_of all_amounts
is_place bs p = record {
  day = (let low = p.small 2 in let high = p.small 3 in omega arith);
  long = length-map (first_chunks 24 64 (drop 8 bs)) amounts_of ∙ length-first_chunks 24 64 (drop 8 bs);
  fits = all_fit 64 (drop 8 bs) (small_drop 8 bs p.small);
}

pub read : (bs : List ℕ) → IsBytes bs → Read bs
read bs p = record { place = is_place bs p; back = exact bs p }
