-- What digits write, and what a figure is stored as. Assumes nothing.
use Rattle.std.specs.Prelude.{◌≡◌, ℕ, ◌+◌, ◌-◌, ◌*◌, ◌^◌, ◌<◌, ◌≤◌, Bool, true, false, cond, ◌&&◌, List, [], ◌∷◌, ◌++◌, length, drop, ℤ, pos, neg_ℤ, Some, None, Ok, Err, Option, Result, ◌==◌, nat_le, slice_index}
use Rattle.terms.specs.Limits.{most_stored}
use Rattle.terms.specs.Told.{Told, fine, refuse}
use Rattle.terms.specs.Determinants.{decimals_of}
use Rattle.terms.specs.declared.determinant.Determinant.{Determinant}
use Rattle.figures.specs.declared.numbers.Fault.{Fault}
use Rattle.figures.specs.declared.numbers.Fault.TheVariants.{Form, Beyond}
use Rattle.figures.specs.Marks.{mark_of, digit_of}
use Rattle.figures.specs.Cuts.{cut}

-- the answers of a field: each fault's number, with no values
abbrev pub numbered : {X : Type 0} → Fault → Told X
numbered Form = refuse 4 []
numbered Beyond = refuse 5 []

abbrev pub told : {X : Type 0} → Result X Fault → Told X
told (Ok x) = fine x
told (Err e) = numbered e

abbrev answer_number : Told ℤ → ℕ
answer_number (fine z) = 0
answer_number (refuse a vs) = a

abbrev pub number_of : Fault → ℕ
number_of e = answer_number (numbered e)

abbrev pub bind : {X Y : Type 0} → Option X → (X → Option Y) → Option Y
bind None f = None
bind (Some x) f = f x

-- the number that digits write after the number n, and None at any other byte
abbrev pub value_on : ℕ → List ℕ → Option ℕ
value_on n [] = Some n
value_on n (b ∷ bs) = bind (digit_of (mark_of b)) (λ d. value_on (n * 10 + d) bs)

-- one to most digits
abbrev pub counted : ℕ → List ℕ → Option ℕ
counted most bs = cond (nat_le 1 (length bs) && nat_le (length bs) most) (value_on 0 bs) None

-- the figure times ten to the d: one to ten digits and, after a point, one to d digits
abbrev pub magnitude_of : ℕ → List ℕ → Option (List ℕ × List ℕ) → Option ℕ
magnitude_of d bs None = bind (counted 10 bs) (λ w. Some (w * 10 ^ d))
magnitude_of d bs (Some p) = bind (counted 10 p.0) (λ w. bind (counted d p.1) (λ f. Some (w * 10 ^ d + f * 10 ^ (d - length p.1))))

abbrev pub magnitude : ℕ → List ℕ → Option ℕ
magnitude d bs = magnitude_of d bs (cut 46 bs)

abbrev pub bounded : Bool → Option ℕ → Result ℤ Fault
bounded minus None = Err Form
bounded minus (Some n) = cond (nat_le n most_stored) (Ok (cond minus (neg_ℤ (pos n)) (pos n))) (Err Beyond)

-- a figure with an optional minus
abbrev pub stored_by : ℕ → List ℕ → Result ℤ Fault
stored_by d bs = cond (slice_index bs 0 == 45) (bounded true (magnitude d (drop 1 bs))) (bounded false (magnitude d bs))

-- the stored number of a determinant's figure
abbrev pub stored : Determinant → List ℕ → Result ℤ Fault
stored k bs = stored_by (decimals_of k) bs

-- the same as an answer
abbrev pub storing : Determinant → List ℕ → Told ℤ
storing k bs = told (stored k bs)

-- FIGURES IN WORDS
-- the bytes bs write a figure with no sign whose size, times 10 to the d, is n
pub data Writes (d : ℕ) : List ℕ → ℕ → Type 0 where
  -- one to ten digits that write v
  whole : (ws : List ℕ) (v : ℕ) → 1 ≤ length ws → length ws ≤ 10 → value_on 0 ws ≡ Some v → Writes d ws (v * 10 ^ d)
  -- one to ten digits, a point and one to d digits: read without the point they write v, so the figure is v over 10 to the digits after it
  pointed : (ws fs : List ℕ) (v n : ℕ) → 1 ≤ length ws → length ws ≤ 10 → 1 ≤ length fs → length fs ≤ d → value_on 0 (ws ++ fs) ≡ Some v → n * 10 ^ length fs ≡ v * 10 ^ d → Writes d (ws ++ 46 ∷ fs) n

-- the same with an optional minus in front
pub data Figures (d : ℕ) : List ℕ → Bool → ℕ → Type 0 where
  plain : (bs : List ℕ) (n : ℕ) → Writes d bs n → Figures d bs false n
  minus : (bs : List ℕ) (n : ℕ) → Writes d bs n → Figures d (45 ∷ bs) true n

-- The law of a stored number: it is a figure of the field times 10 to the decimals, exactly, and within the stored range; a field is beyond
-- that range where the figure is, and of no form where it writes no figure.
abbrev pub Stores : ℕ → List ℕ → Result ℤ Fault → Type 0
Stores d bs (Ok z) = (m : Bool) × (n : ℕ) × Figures d bs m n × (n ≤ most_stored) × (z ≡ cond m (neg_ℤ (pos n)) (pos n))
Stores d bs (Err Beyond) = (m : Bool) × (n : ℕ) × Figures d bs m n × (most_stored < n)
Stores d bs (Err Form) = (m : Bool) (n : ℕ) → Figures d bs m n → ⊥
