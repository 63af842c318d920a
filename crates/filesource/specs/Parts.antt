-- The columns and the value lines of a file. Assumes nothing.
use Rattle.std.specs.Prelude.{ℕ, cond, List, [], is_ok, Ok, Err, Result}
use Rattle.terms.specs.declared.determinant.Determinant.{Determinant}
use Rattle.detfile.specs.declared.refusal.FileRefusal.{FileRefusal}
use Rattle.detfile.specs.Files.{names_cut, judged}
use Rattle.detfile.specs.Lines.{Line, lines}

abbrev pub columns_from : Result (List Determinant × List ℕ) FileRefusal → List Determinant
columns_from (Err e) = []
columns_from (Ok p) = p.0

abbrev pub values_from : Result (List Determinant × List ℕ) FileRefusal → List ℕ
values_from (Err e) = []
values_from (Ok p) = p.1

-- the determinants of the names line, and the bytes after it; a refused file has neither
abbrev pub columns : List ℕ → List Determinant
columns bs = cond (is_ok (judged bs)) (columns_from (names_cut bs)) []

abbrev pub values : List ℕ → List ℕ
values bs = cond (is_ok (judged bs)) (values_from (names_cut bs)) []

abbrev pub value_lines : List ℕ → List Line
value_lines bs = lines (values bs)
