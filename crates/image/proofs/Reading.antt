-- All amounts, read part by part.
use Rattle.std.proofs.Common.{◌≡◌, ℕ, zero, suc, ◌<◌, ◌/◌, List, [], map, length, get_or, drop, arith, refl, ap, ◌∙◌, length-drop}
use Rattle.std.proofs.lemmas.List.{take_all}
use borrow.Rule.Slice.PartMut.{mid_of}
use Rattle.std.specs.Simd.{first_chunks}
use Rattle.amounts.specs.declared.row.Amounts.{Amounts}
use Rattle.amounts.specs.Triples.{none}
use Rattle.image.specs.Places.{amounts_of, all_amounts}
use Rattle.image.proofs.Lists.{mapped}

pub length-first_chunks : {X : Type 0} (n k : ℕ) (xs : List X) → length (first_chunks n k xs) ≡ k
length-first_chunks n zero xs = refl
length-first_chunks n (suc k) xs = let h = length-first_chunks n k (drop n xs) in grind arith

parts_read : (n : ℕ) (bs : List ℕ) (ys : List Amounts) → length ys ≡ n → ((i : ℕ) → i < n → get_or ys i none ≡ amounts_of (get_or (first_chunks 24 n bs) i [])) → ys ≡ map amounts_of (first_chunks 24 n bs)
parts_read n bs ys l h =
    let e = length-first_chunks 24 n bs in
    mapped amounts_of ys (first_chunks 24 n bs) [] none (omega arith) (λ i k. h i (omega arith))

pub all_read : (n : ℕ) (bs rest : List ℕ) (ps : List (List ℕ)) (ys : List Amounts) → n ≡ 64 → rest ≡ drop 8 bs → ps ≡ first_chunks 24 n rest → length ys ≡ 64 → ((i : ℕ) → i < 64 → get_or ys i none ≡ amounts_of (get_or ps i [])) → ys ≡ all_amounts bs
unfolding all_amounts
all_read n bs rest ps ys e r p l h =
    let q : ps ≡ first_chunks 24 n (drop 8 bs) = p ∙ ap (λ (z : List ℕ). first_chunks 24 n z) r in
    parts_read n (drop 8 bs) ys (omega arith) (λ i k. h i (omega arith) ∙ ap (λ (z : List (List ℕ)). amounts_of (get_or z i [])) q)
    ∙ ap (λ (k : ℕ). map amounts_of (first_chunks 24 k (drop 8 bs))) e

pub after_head : (bs : List ℕ) → length bs ≡ 1544 → mid_of 8 1536 bs ≡ drop 8 bs
after_head bs l = take_all 1536 (drop 8 bs) (omega (arith, length-drop 8 bs))

pub part_count : (bs : List ℕ) → length bs ≡ 1544 → length (mid_of 8 1536 bs) / 24 ≡ 64
part_count bs l =
    let e = ap length (after_head bs l) in
    omega (arith, length-drop 8 bs)
