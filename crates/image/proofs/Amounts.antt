-- An amount in eight bytes, and three of them in 24.
use Rattle.std.proofs.Common.{◌≡◌, ℕ, zero, suc, ◌+◌, ◌<◌, ◌^◌, ℤ, List, [], ◌∷◌, ◌++◌, length, get_or, take, drop, arith, refl, ap, ◌∙◌, length-drop}
use Rattle.std.specs.Int.{w64, byte_at, bytes_low_first, cast_signed, cast_unsigned, from_le_bytes}
use Rattle.std.specs.Prelude.{FitsSigned}
use Rattle.std.proofs.lemmas.Int.{ints, to_z-of_z, of_z-to_z}
use Rattle.std.proofs.lemmas.List.{get_or-drop, length-take, take_all, take-append-drop, drop-drop}
use Rattle.std.proofs.lemmas.Nat.{le_bytes_8, from_le_bytes-to_le_bytes_8}
use Rattle.amounts.specs.declared.row.Amounts.{Amounts}
use Rattle.image.specs.Places.{word, amount_of, amounts_bytes, amounts_of}
use Rattle.image.specs.Laws.{Fits}

abbrev pub Small : List ℕ → Type 0
Small bs = (i : ℕ) → get_or bs i 0 < 256

pub small_drop : (n : ℕ) (bs : List ℕ) → Small bs → Small (drop n bs)
small_drop n bs h i = rw get_or-drop (h (n + i))

pub small_take : (n : ℕ) (bs : List ℕ) → Small bs → Small (take n bs)
small_take zero bs h i = omega arith
small_take (suc n) [] h i = omega arith
small_take (suc n) (b ∷ bs) h zero = h 0
small_take (suc n) (b ∷ bs) h (suc i) = small_take n bs (λ k. h (suc k)) i

abbrev triple : ℤ → ℤ → ℤ → Amounts
triple x y z = record { reactive = x; held = y; load = z }

below_64 : (z : ℤ) → FitsSigned w64 z → cast_unsigned w64 z < 2 ^ 64
below_64 z f = omega (arith, ints)

pub word_back : (z : ℤ) → FitsSigned w64 z → amount_of (word z) ≡ z
unfolding word
word_back z f = ap (cast_signed w64) (from_le_bytes-to_le_bytes_8 (cast_unsigned w64 z) (below_64 z f)) ∙ to_z-of_z w64 z f

number_below : (bs : List ℕ) → Small bs → from_le_bytes w64 bs < 2 ^ 64
number_below bs h = omega (arith, h 0, h 1, h 2, h 3, h 4, h 5, h 6, h 7)

pub word_exact : (bs : List ℕ) → length bs ≡ 8 → Small bs → word (amount_of bs) ≡ bs
unfolding word
word_exact bs l h = le_bytes_8 bs _ l h (of_z-to_z w64 (from_le_bytes w64 bs) (number_below bs h))

pub length-amounts_bytes : (a : Amounts) → length (amounts_bytes a) ≡ 24
unfolding word
length-amounts_bytes a = refl

same_amounts : (a b c x y z : ℤ) → a ≡ x → b ≡ y → c ≡ z → triple a b c ≡ triple x y z
same_amounts a b c x y z p q r = cc

pub amounts_back : (a : Amounts) → Fits a → amounts_of (amounts_bytes a) ≡ a
unfolding word
amounts_back a f = same_amounts _ _ _ _ _ _ (word_back a.reactive f.reactive) (word_back a.held f.held) (word_back a.load f.load)

pub amounts_exact : (bs : List ℕ) → length bs ≡ 24 → Small bs → amounts_bytes (amounts_of bs) ≡ bs
amounts_exact bs l h =
    let x = word_exact (take 8 bs) (omega (arith, length-take 8 bs)) (small_take 8 bs h) in
    let y = word_exact (take 8 (drop 8 bs)) (omega (arith, length-take 8 (drop 8 bs), length-drop 8 bs)) (small_take 8 (drop 8 bs) (small_drop 8 bs h)) in
    let z = word_exact (take 8 (drop 16 bs)) (omega (arith, length-take 8 (drop 16 bs), length-drop 16 bs)) (small_take 8 (drop 16 bs) (small_drop 16 bs h)) in
    let whole = take_all 8 (drop 16 bs) (omega (arith, length-drop 16 bs)) in
    let p = take-append-drop 8 bs in
    let q = take-append-drop 8 (drop 8 bs) in
    let r : drop 8 (drop 8 bs) ≡ drop 16 bs = drop-drop 8 8 bs in
    cc

-- ---- what an amount's bytes are, and what amounts can be

pub small_cons : (b : ℕ) (bs : List ℕ) → b < 256 → Small bs → Small (b ∷ bs)
small_cons b bs l h zero = l
small_cons b bs l h (suc i) = h i

pub small_append : (bs cs : List ℕ) → Small bs → Small cs → Small (bs ++ cs)
small_append [] cs h k = k
small_append (b ∷ bs) cs h k = small_cons b (bs ++ cs) (h 0) (small_append bs cs (λ i. h (suc i)) k)

pub small_none : Small []
small_none i = omega arith

byte_small : (i n : ℕ) → byte_at i n < 256
byte_small zero n = omega arith
byte_small (suc i) n = omega arith

pub low_small : (i k n : ℕ) → Small (bytes_low_first i k n)
low_small i zero n = small_none
low_small i (suc k) n = small_cons _ _ (byte_small i n) (low_small (suc i) k n)

small_word : (z : ℤ) → Small (word z)
unfolding word
small_word z = low_small 0 8 (cast_unsigned w64 z)

pub small_amounts : (a : Amounts) → Small (amounts_bytes a)
small_amounts a = small_append (word a.reactive) _ (small_word a.reactive) (small_append (word a.held) _ (small_word a.held) (small_word a.load))

number_fits : (n : ℕ) → n < 2 ^ 64 → FitsSigned w64 (cast_signed w64 n)
number_fits n l = grind arith

fits : (bs : List ℕ) → Small bs → FitsSigned w64 (amount_of bs)
fits bs h = number_fits (from_le_bytes w64 bs) (number_below bs h)

pub amounts_fit : (bs : List ℕ) → Small bs → Fits (amounts_of bs)
amounts_fit bs h = record {
  reactive = fits (take 8 bs) (small_take 8 bs h);
  held = fits (take 8 (drop 8 bs)) (small_take 8 (drop 8 bs) (small_drop 8 bs h));
  load = fits (take 8 (drop 16 bs)) (small_take 8 (drop 16 bs) (small_drop 16 bs h));
}
