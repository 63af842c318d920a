-- What a file answers. Assumes nothing.
use Rattle.std.specs.Prelude.{ℕ, Bool, cond, ◌&&◌, List, [], ◌∷◌, ℤ, Some, None, Ok, Err, Option, Result, ◌==◌}
use Rattle.terms.specs.Limits.{inside}
use Rattle.terms.specs.Decisions.{decide}
use Rattle.terms.specs.Determinants.{number_of}
use Rattle.terms.specs.declared.answer.Answer.{Answer}
use Rattle.terms.specs.declared.answer.Answer.TheVariants.{NoCut, Null, Figure}
use Rattle.terms.specs.declared.determinant.Determinant.{Determinant}
use Rattle.figures.specs.Cuts.{first_field, past_field}
use Rattle.figures.specs.declared.numbers.Fault.{Fault}
use Rattle.detfile.specs.Keys.{key_of, values_part, covers_of}
use Rattle.detfile.specs.Lines.{Line, ended, unended}
use Rattle.detfile.specs.Values.{given}
use Rattle.detfile.specs.declared.key.Key.{Key}
use Rattle.filesource.specs.Parts.{columns, value_lines}

-- what a determinant's field says, in a line that covers the interval or does not; a dash gives no number
abbrev pub value_says : Bool → Result (Option ℤ) Fault → Answer
value_says covers (Err e) = NoCut
value_says covers (Ok None) = NoCut
value_says covers (Ok (Some z)) = cond covers (Figure z) Null

-- what the field in the determinant's column says, where there is one
abbrev pub column_says : List Determinant → ℕ → Bool → List ℕ → Answer
column_says [] d covers bs = NoCut
column_says (k ∷ ks) d covers bs = cond (number_of k == d) (value_says covers (given k (first_field bs))) (column_says ks d covers (past_field bs))

abbrev pub key_says : List Determinant → ℕ → ℕ → ℕ → ℕ → List ℕ → Result Key Fault → Answer
key_says ks d u y i bs (Err e) = NoCut
key_says ks d u y i bs (Ok k) = cond (k.day == y && k.unit == u) (column_says ks d (covers_of k.interval i) bs) NoCut

-- what the bytes of a line say of a question: something where their day and unit are those asked
abbrev pub bytes_say : List Determinant → ℕ → ℕ → ℕ → ℕ → List ℕ → Answer
bytes_say ks d u y i l = key_says ks d u y i (values_part l) (key_of l)

abbrev pub line_says : List Determinant → ℕ → ℕ → ℕ → ℕ → Line → Answer
line_says ks d u y i (ended l) = bytes_say ks d u y i l
line_says ks d u y i (unended l) = NoCut

-- what a file answers; one that is refused has no value lines
abbrev pub asked : List ℕ → ℕ → ℕ → ℕ → ℕ → Answer
asked bs d u y i = cond (inside d u y i) (decide (line_says (columns bs) d u y i) NoCut (value_lines bs)) NoCut
