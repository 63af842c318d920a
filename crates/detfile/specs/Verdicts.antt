-- The verdict on a file in words: which line is at fault, and that those before it are sound. Assumes nothing.
use Rattle.std.specs.Prelude.{◌≡◌, ℕ, ◌+◌, ◌<◌, ◌≤◌, ◌⊎◌, List, [], ◌∷◌, length, ℤ, Some, None, Ok, Err, Option, Result, ◌≢◌}
use Rattle.std.specs.List.{AllByRecursion, flat_map}
use Rattle.terms.specs.Decisions.{Among}
use Rattle.terms.specs.declared.determinant.Determinant.{Determinant}
use Rattle.figures.specs.Cuts.{cut, first_field, past_field, spaces}
use Rattle.figures.specs.declared.numbers.Fault.{Fault}
use Rattle.detfile.specs.declared.key.Key.{Key}
use Rattle.detfile.specs.declared.refusal.FileRefusal.{FileRefusal}
use Rattle.detfile.specs.declared.refusal.FileRefusal.TheVariants.{TooLong, Names, Shape}
use Rattle.detfile.specs.Keys.{key_of, values_part}
use Rattle.detfile.specs.Names.{most_line, names_of}
use Rattle.detfile.specs.Values.{given, fields_fault}
use Rattle.detfile.specs.Lines.{Line, ended, unended, lines, written}
use Rattle.detfile.specs.Refusals.{fault_at}
use Rattle.detfile.specs.Files.{most_bytes}

-- LINES
-- has no line feed inside
abbrev pub Unbroken : List ℕ → Type 0
Unbroken bs = AllByRecursion (λ b. b ≢ 10) bs

-- only the last line may lack its line feed, and then it is not empty
abbrev pub Endings : List Line → Type 0
Endings [] = Unit {0}
Endings (ended l ∷ ls) = Unbroken l × Endings ls
Endings (unended l ∷ []) = Unbroken l × (l ≢ [])
Endings (unended l ∷ (m ∷ ls)) = ⊥

-- the lines of a file: with their line feeds they are the file, and no other list of lines is
pub record Lined (bs : List ℕ) : Type 0 where
  pub rejoined : flat_map written (lines bs) ≡ bs
  pub endings : Endings (lines bs)

-- VALUE LINES
-- each determinant's field is a dash or gives a stored number
abbrev pub Given : List Determinant → List ℕ → Type 0
Given [] bs = Unit {0}
Given (k ∷ ks) bs = (o : Option ℤ) × (given k (first_field bs) ≡ Ok o) × Given ks (past_field bs)

-- at most 255 bytes, and as many fields as the names line: three and one for each column
abbrev pub Shaped : List Determinant → List ℕ → Type 0
Shaped ks l = (length l ≤ most_line) × (spaces l ≡ length ks + 2)

-- a value line with nothing wrong
pub record Sound (ks : List Determinant) (l : List ℕ) : Type 0 where
  pub shaped : Shaped ks l
  pub key : Key
  pub read : key_of l ≡ Ok key
  pub given : Given ks (values_part l)

abbrev pub SoundLine : List Determinant → Line → Type 0
SoundLine ks (ended l) = Sound ks l
SoundLine ks (unended l) = ⊥

-- line n is refused by e: for its shape, or else for its first field at fault
abbrev pub FaultyLine : List Determinant → ℕ → FileRefusal → Line → Type 0
FaultyLine ks n e (unended l) = e ≡ Shape n
FaultyLine ks n e (ended l) = ((Shaped ks l → ⊥) × (e ≡ Shape n)) ⊎ ((f : Fault) × Shaped ks l × (fields_fault ks l ≡ Err f) × (e ≡ fault_at f n))

-- every value line is sound and n is their number; or one is at fault, the lines before it are sound, and it is named by its place, the first
-- value line being line 2
abbrev pub LinesVerdict : List Determinant → List Line → Result ℕ FileRefusal → Type 0
LinesVerdict ks ls (Ok n) = AllByRecursion (SoundLine ks) ls × (n ≡ length ls)
LinesVerdict ks ls (Err e) = (m : Among ls) × AllByRecursion (SoundLine ks) m.before × FaultyLine ks (length m.before + 2) e m.one

-- THE FILE
pub data Verdict (bs : List ℕ) : Result ℕ FileRefusal → Type 0 where
  too_long : most_bytes < length bs → Verdict bs (Err TooLong)
  -- no line feed at all
  unnamed : length bs ≤ most_bytes → None ≡ cut 10 bs → Verdict bs (Err Names)
  -- a first line that is no names line
  misnamed : (names values : List ℕ) → length bs ≤ most_bytes → Some (names, values) ≡ cut 10 bs → names_of names ≡ None → Verdict bs (Err Names)
  valued : (names values : List ℕ) (ks : List Determinant) (r : Result ℕ FileRefusal) → length bs ≤ most_bytes → Some (names, values) ≡ cut 10 bs → names_of names ≡ Some ks → LinesVerdict ks (lines values) r → Verdict bs r
