-- The places of an image are written as its bytes stand. Assumes nothing.
use Rattle.std.proofs.Common.{◌≡◌, ℕ, zero, suc, ◌+◌, ◌*◌, ◌≤◌, Bool, true, false, ◌&&◌, List, ◌++◌, map, length, take, drop, arith, refl, sym, ap, ◌∙◌}
use Rattle.std.proofs.lemmas.List.{length-map, take-append-drop, length-take-le, length-drop}
use Rattle.std.proofs.Math.Seq.{take-add}
use Rattle.std.specs.List.{AllByRecursion}
use Rattle.std.specs.Simd.{first_chunks}
use Rattle.books.specs.Stores.{joined}
use Rattle.image.specs.Places.{place_bytes, place_of}
use Rattle.image.specs.Laws.{IsBytes}
use Rattle.image.proofs.Amounts.{Small, small_take, small_drop}
use Rattle.image.proofs.Reading.{length-first_chunks}
use Rattle.image.proofs.Exact.{read}
use Rattle.imagebook.specs.Forms.{all_formed}
use Rattle.imagebook.specs.Images.{places_in}

pub length-places_in : (n : ℕ) (bs : List ℕ) → length (places_in n bs) ≡ n
unfolding places_in
length-places_in n bs = length-map (first_chunks 1544 n bs) place_of ∙ length-first_chunks 1544 n bs

pub few_places : (n : ℕ) (bs : List ℕ) → n ≤ 32 → length (places_in n bs) ≤ 32
few_places n bs l = let e = length-places_in n bs in omega (arith, e, l)

same_join : {X : Type 0} (xs ys us vs : List X) → xs ≡ us → ys ≡ vs → xs ++ ys ≡ us ++ vs
same_join xs ys us vs e f = cc

pub and_first : (a b : Bool) → (a && b) ≡ true → a ≡ true
and_first true b h = refl
and_first false b h = h

pub and_second : (a b : Bool) → (a && b) ≡ true → b ≡ true
and_second true b h = h
and_second false b h = absurd (grind arith)

-- pieces of k elements, each read and written back as it stands, are the elements in front
rejoined : {X Y : Type 0} (w : Y → List X) (r : List X → Y) (k n : ℕ) (xs : List X) → AllByRecursion (λ x. w (r x) ≡ x) (first_chunks k n xs) → joined w (map r (first_chunks k n xs)) ≡ take (k * n) xs
unfolding joined
rejoined w r k zero xs a = ap (λ m. take m xs) {x = 0} {y = k * 0} (omega arith)
rejoined w r k (suc n) xs a =
    same_join _ _ _ _ a.0 (rejoined w r k n (drop k xs) a.1) ∙ sym (take-add k (k * n) xs) ∙ ap (λ m. take m xs) {x = k + k * n} {y = k * suc n} (omega arith)

pub exact : (n : ℕ) (bs : List ℕ) → 1544 * n ≤ length bs → Small bs → all_formed (first_chunks 1544 n bs) ≡ true → AllByRecursion (λ b. place_bytes (place_of b) ≡ b) (first_chunks 1544 n bs)
unfolding all_formed
exact zero bs l s f = tt
exact (suc n) bs l s f =
    let b : IsBytes (take 1544 bs) = record { long = length-take-le 1544 bs (omega (arith, l)); small = small_take 1544 bs s; formed = and_first _ _ f } in
    ((read (take 1544 bs) b).back, exact n (drop 1544 bs) (omega (arith, l, length-drop 1544 bs)) (small_drop 1544 bs s) (and_second _ _ f))

pub front : (n : ℕ) (bs : List ℕ) → 1544 * n ≤ length bs → Small bs → all_formed (first_chunks 1544 n bs) ≡ true → joined place_bytes (places_in n bs) ≡ take (1544 * n) bs
unfolding places_in
front n bs l s f = rejoined place_bytes place_of 1544 n bs (exact n bs l s f)

pub pinned_places : (n : ℕ) (bs : List ℕ) → 1544 * n ≤ length bs → Small bs → all_formed (first_chunks 1544 n bs) ≡ true → bs ≡ joined place_bytes (places_in n bs) ++ drop (1544 * n) bs
pinned_places n bs l s f = sym (take-append-drop (1544 * n) bs) ∙ ap (λ ys. ys ++ drop (1544 * n) bs) (sym (front n bs l s f))
