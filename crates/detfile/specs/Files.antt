-- The check of a whole file. Assumes nothing.
use Rattle.std.specs.Prelude.{ℕ, cond, List, length, Ok, Err, Result, nat_le, ok_or}
use Rattle.std.specs.Result.{result_map_both}
use denote.Ref.{Bor}
use Rattle.terms.specs.Told.{Told}
use Rattle.terms.specs.declared.determinant.Determinant.{Determinant}
use Rattle.figures.specs.Cuts.{cut}
use Rattle.detfile.specs.declared.columns.Columns.{Columns}
use Rattle.detfile.specs.declared.refusal.FileRefusal.{FileRefusal}
use Rattle.detfile.specs.declared.refusal.FileRefusal.TheVariants.{TooLong, Names}
use Rattle.detfile.specs.Keys.{then}
use Rattle.detfile.specs.Lines.{lines, lines_judged}
use Rattle.detfile.specs.Names.{columns_in, names_of}
use Rattle.detfile.specs.Refusals.{told}

-- the most bytes that a file may have
abbrev pub most_bytes : ℕ
most_bytes = 16777216

-- the columns that the first line names, and the bytes after it
abbrev pub names_cut : List ℕ → Result (List Determinant × List ℕ) FileRefusal
names_cut bs =
    then (ok_or (cut 10 bs) Names) (λ p.
    then (ok_or (names_of p.0) Names) (λ ks.
    Ok (ks, p.1)))

-- the same two behind their types
abbrev pub parts_in : Result (Columns × Bor (List ℕ)) FileRefusal → Result (List Determinant × List ℕ) FileRefusal
parts_in r = result_map_both (λ p. (columns_in p.0, p.1.now)) (λ e. e) r

-- the length, then the names line, then the value lines
abbrev pub judged : List ℕ → Result ℕ FileRefusal
judged bs = cond (nat_le (length bs) most_bytes) (then (names_cut bs) (λ p. lines_judged p.0 0 (lines p.1))) (Err TooLong)

-- the number of value lines, or the answer number and the line at fault
abbrev pub checked : List ℕ → Told ℕ
checked bs = told (judged bs)
