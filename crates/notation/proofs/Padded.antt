-- Digits behind zeros are the last digits of a number.
use Rattle.std.proofs.Common.{◌≡◌, ℕ, zero, suc, ◌+◌, ◌-◌, ◌*◌, ◌/◌, ◌%◌, ◌^◌, ◌<◌, List, [], ◌∷◌, ◌++◌, length, sym, refl, ap, ◌∙◌, append_assoc, arith, inl, inr, ℤ, pos, negsuc}
use Rattle.std.specs.Prelude.{replicate, decimal, codes, unsigned_abs}
use Rattle.std.specs.Fmt.{padded_integral, format_spec, char_count, styled_decimal}
use Rattle.std.proofs.Math.Nat.{div-div-eq-div-mul, pow-suc, pow-succ', one-le-pow, mod-le}
use Rattle.std.proofs.Math.Arith.{mod-mul}
use Rattle.std.proofs.lemmas.Grind.{common_steps}
use Rattle.std.proofs.lemmas.Bool.{cases_lt}
use Rattle.std.proofs.lemmas.Fmt.{decimal_digit, decimal_step}
use Rattle.std.proofs.lemmas.Nat.{div-mul-add, mod-mul-add, mod_below}
use Rattle.notation.specs.Figures.{last_digits, pointed, figure_of}

-- digits behind zeros, k in all
abbrev pub behind_zeros : ℕ → List ℕ → List ℕ
behind_zeros k ds = replicate (k - length ds) 48 ++ ds

-- what `{:0k$}` writes of a number
padded_zeros : (k n : ℕ) → styled_decimal (format_spec 32 0 4 (suc k) (2 ^ 64 - 1)) n ≡ behind_zeros (suc k) (decimal n)
unfolding padded_integral char_count
padded_zeros k n = grind (arith, common_steps)

behind_push : (k : ℕ) (ds : List ℕ) (d : ℕ) → behind_zeros (suc k) (ds ++ (d ∷ [])) ≡ behind_zeros k ds ++ (d ∷ [])
behind_push k ds d = grind (arith, common_steps)

behind_nothing : (k : ℕ) → behind_zeros (suc k) [] ≡ behind_zeros (suc k) (48 ∷ [])
behind_nothing k = grind (arith, common_steps)

-- the last digit stands behind those of a tenth
last_behind : (k m : ℕ) → m < 2 ^ 64 → behind_zeros (suc (suc k)) (decimal m) ≡ behind_zeros (suc k) (decimal (m / 10)) ++ decimal (m % 10)
last_behind k m small = elim (cases_lt m 10) [
  | inl h ↦
      let q : m / 10 ≡ 0 = omega arith in
      let r : m % 10 ≡ m = omega arith in
      rw (q, r, decimal_digit m h, decimal_digit 0 (omega arith)) (behind_push (suc k) [] (48 + m) ∙ ap (λ l. l ++ ((48 + m) ∷ [])) (behind_nothing k))
  | inr h ↦ rw (decimal_step m h small, decimal_digit (m % 10) (mod_below m 10 (omega arith))) (behind_push (suc k) (decimal (m / 10)) (48 + m % 10))
]

tenth : (k n : ℕ) → n / 10 ^ suc (suc k) ≡ n / 10 / 10 ^ suc k
tenth k n = sym (div-div-eq-div-mul n 10 (10 ^ suc k) ∙ ap (λ d. n / d) (sym (pow-succ' 10 (suc k))))

last_digits_right : (k n : ℕ) → last_digits (suc (suc k)) n ≡ last_digits (suc k) (n / 10) ++ decimal (n % 10)
last_digits_right zero n = refl
last_digits_right (suc k) n = rw (tenth k n, last_digits_right k n) (sym (append_assoc (decimal (n / 10 / 10 ^ suc k % 10)) (last_digits (suc k) (n / 10)) (decimal (n % 10))))

zeros_last_digits : (k n : ℕ) → n < 2 ^ 64 → behind_zeros (suc k) (decimal (n % 10 ^ suc k)) ≡ last_digits (suc k) n
zeros_last_digits zero n small = rw (decimal_digit (n % 10) (mod_below n 10 (omega arith))) refl
zeros_last_digits (suc k) n small =
    let q : n % 10 ^ suc (suc k) ≡ (n / 10 % 10 ^ suc k) * 10 + n % 10 = ap (λ d. n % d) (pow-suc 10 (suc k)) ∙ mod-mul n (one-le-pow (suc k) 10 (omega arith)) (omega arith) in
    let tenth_small : n / 10 < 2 ^ 64 = omega arith in
    let d : n % 10 < 10 = mod_below n 10 (omega arith) in
    last_behind k (n % 10 ^ suc (suc k)) (omega (arith, mod-le n (10 ^ suc (suc k))))
    ∙ rw (q, div-mul-add (n / 10 % 10 ^ suc k) 10 (n % 10) d, mod-mul-add (n / 10 % 10 ^ suc k) 10 (n % 10) d, zeros_last_digits k (n / 10) tenth_small) (sym (last_digits_right k n))

-- the minus of a number below zero
abbrev pub sign_of : ℤ → List ℕ
sign_of (pos n) = []
sign_of (negsuc n) = codes "-"

signed : (k : ℕ) (z : ℤ) → sign_of z ++ pointed k (unsigned_abs z) ≡ figure_of k z
signed k (pos n) = refl
signed k (negsuc n) = refl

with_point : (k n : ℕ) → (k ≡ 0 → ⊥) → n < 2 ^ 64 → decimal (n / 10 ^ k) ++ (46 ∷ styled_decimal (format_spec 32 0 4 k (2 ^ 64 - 1)) (n % 10 ^ k)) ≡ pointed k n
with_point zero n some small = absurd (some refl)
with_point (suc k) n some small = ap (λ l. decimal (n / 10 ^ suc k) ++ (46 ∷ l)) (padded_zeros k (n % 10 ^ suc k) ∙ zeros_last_digits k n small)

pub figure_text : (k n : ℕ) (z : ℤ) (sign : List ℕ) → (k ≡ 0 → ⊥) → n < 2 ^ 64 → n ≡ unsigned_abs z → sign ≡ sign_of z → sign ++ (decimal (n / 10 ^ k) ++ (46 ∷ styled_decimal (format_spec 32 0 4 k (2 ^ 64 - 1)) (n % 10 ^ k))) ≡ figure_of k z
figure_text k n z sign some small abs e = rw (with_point k n some small, abs, e) (signed k z)
