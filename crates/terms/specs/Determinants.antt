-- The table of determinants. Assumes nothing.
use Rattle.std.specs.Prelude.{◌≡◌, ℕ, ◌≤◌, Bool, ◌&&◌, List, [], ◌∷◌, ℤ, pos, neg_ℤ, ◌≤ℤ◌, Some, None, Ok, Err, codes, Option, Result, find, int_le, nat_eq, unsigned_abs}
use Rattle.std.specs.Str.{bytes_eq}
use Rattle.terms.specs.declared.determinant.Determinant.{Determinant}
use Rattle.terms.specs.declared.determinant.Determinant.TheVariants.{Owner, Vssvariol, Urllag, Urllead, Rtvar, Hsl, Lsl, Rtspp, Rthslaiec, Rtvssaiec, Rtmg, Lrs, Vssvarpr}
use Rattle.terms.specs.declared.determinant.Missing.{Missing}
use Rattle.terms.specs.declared.determinant.Missing.TheVariants.{Skip, Zero, Warning, Stop}
use Rattle.terms.specs.Limits.{last_determinant, most_stored}

-- number, name in a file, decimals, lowest and highest stored number, and what is done where it is missing
pub record Row : Type 0 where
  pub number : ℕ
  pub name : List ℕ
  pub decimals : ℕ
  pub low : ℤ
  pub high : ℤ
  pub missing : Missing

abbrev row : ℕ → List ℕ → ℕ → ℤ → ℤ → Missing → Row
row n s d l h m = record { number = n; name = s; decimals = d; low = l; high = h; missing = m }

abbrev pub row_of : Determinant → Row
row_of Owner = row 1 (codes "OWNER") 0 (pos 0) (pos 63) Skip
row_of Vssvariol = row 2 (codes "VSSVARIOL") 3 (neg_ℤ (pos 2000000)) (pos 2000000) Skip
row_of Urllag = row 3 (codes "URLLAG") 3 (pos 0) (pos 2000000) Stop
row_of Urllead = row 4 (codes "URLLEAD") 3 (neg_ℤ (pos 2000000)) (pos 0) Stop
row_of Rtvar = row 5 (codes "RTVAR") 3 (neg_ℤ (pos 1000000)) (pos 1000000) Zero
row_of Hsl = row 6 (codes "HSL") 3 (pos 0) (pos 2000000) Stop
row_of Lsl = row 7 (codes "LSL") 3 (pos 0) (pos 2000000) Stop
row_of Rtspp = row 8 (codes "RTSPP") 2 (neg_ℤ (pos 1000000)) (pos 1000000) Stop
row_of Rthslaiec = row 9 (codes "RTHSLAIEC") 2 (neg_ℤ (pos 1000000)) (pos 1000000) Warning
row_of Rtvssaiec = row 10 (codes "RTVSSAIEC") 2 (neg_ℤ (pos 1000000)) (pos 1000000) Warning
row_of Rtmg = row 11 (codes "RTMG") 3 (neg_ℤ (pos 1000000)) (pos 1000000) Zero
row_of Lrs = row 12 (codes "LRS") 6 (pos 0) (pos 1000000) Zero
row_of Vssvarpr = row 13 (codes "VSSVARPR") 2 (pos 0) (pos 1000000) Stop

abbrev pub number_of : Determinant → ℕ
number_of k = (row_of k).number

abbrev pub name_of : Determinant → List ℕ
name_of k = (row_of k).name

abbrev pub decimals_of : Determinant → ℕ
decimals_of k = (row_of k).decimals

abbrev pub low_of : Determinant → ℤ
low_of k = (row_of k).low

abbrev pub high_of : Determinant → ℤ
high_of k = (row_of k).high

abbrev pub missing_of : Determinant → Missing
missing_of k = (row_of k).missing

-- a stored number lies in the determinant's own range
abbrev pub admitted : Determinant → ℤ → Bool
admitted k z = int_le (low_of k) z && int_le z (high_of k)

abbrev pub all : List Determinant
all = Owner ∷ Vssvariol ∷ Urllag ∷ Urllead ∷ Rtvar ∷ Hsl ∷ Lsl ∷ Rtspp ∷ Rthslaiec ∷ Rtvssaiec ∷ Rtmg ∷ Lrs ∷ Vssvarpr ∷ []

-- the determinant of a number, or of a name
abbrev pub with_number : ℕ → Option Determinant
with_number n = find (λ k. nat_eq n (number_of k)) all

abbrev pub named : List ℕ → Option Determinant
named bs = find (λ k. bytes_eq bs (name_of k)) all

-- what a look-up came to
abbrev pub found : {E : Type 0} → Result Determinant E → Option Determinant
found (Ok k) = Some k
found (Err e) = None

-- The rule of the whole table: numbers run from 1 to the last, no two determinants share a number or a name, a figure has at most six
-- decimals, and a range is one of stored numbers.
pub record Tabled (k : Determinant) : Type 0 where
  pub first : 1 ≤ number_of k
  pub last : number_of k ≤ last_determinant
  pub apart : with_number (number_of k) ≡ Some k
  pub spelt : named (name_of k) ≡ Some k
  pub few : decimals_of k ≤ 6
  pub ordered : low_of k ≤ℤ high_of k
  pub lowest : unsigned_abs (low_of k) ≤ most_stored
  pub highest : unsigned_abs (high_of k) ≤ most_stored
