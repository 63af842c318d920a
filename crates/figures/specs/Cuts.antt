-- Where a list of bytes is cut. Assumes nothing.
use Rattle.std.specs.Prelude.{◌≡◌, ℕ, ◌+◌, cond, List, [], ◌∷◌, ◌++◌, length, take, drop, Some, None, count_by, Option, ◌==◌, nat_eq}

-- what stands before the first mark and after it, with front the bytes that were passed; None where there is no mark
abbrev pub cut_on : ℕ → List ℕ → List ℕ → Option (List ℕ × List ℕ)
cut_on m front [] = None
cut_on m front (b ∷ bs) = cond (b == m) (Some (front, bs)) (cut_on m (front ++ b ∷ []) bs)

abbrev pub cut : ℕ → List ℕ → Option (List ℕ × List ℕ)
cut m bs = cut_on m [] bs

abbrev pub before : List ℕ → Option (List ℕ × List ℕ) → List ℕ
before bs None = bs
before bs (Some p) = p.0

abbrev pub beyond : Option (List ℕ × List ℕ) → List ℕ
beyond None = []
beyond (Some p) = p.1

-- the bytes up to the first space, and those after it
abbrev pub first_field : List ℕ → List ℕ
first_field bs = before bs (cut 32 bs)

abbrev pub past_field : List ℕ → List ℕ
past_field bs = beyond (cut 32 bs)

abbrev pub spaces : List ℕ → ℕ
spaces bs = count_by (λ b. nat_eq b 32) bs

-- where a field stands: it is the front of the line, and what is left begins one byte past it
pub record Placed (line field rest : List ℕ) : Type 0 where
  pub front : field ≡ take (length field) line
  pub past : rest ≡ drop (length field + 1) line
