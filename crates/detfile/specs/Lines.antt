-- The lines of a file. Assumes nothing.
use Rattle.std.specs.Prelude.{ℕ, ◌+◌, cond, List, [], ◌∷◌, ◌++◌, length, Ok, Err, Result, ◌==◌}
use Rattle.terms.specs.declared.determinant.Determinant.{Determinant}
use Rattle.detfile.specs.declared.refusal.FileRefusal.{FileRefusal}
use Rattle.detfile.specs.declared.refusal.FileRefusal.TheVariants.{Shape}
use Rattle.detfile.specs.Keys.{then}
use Rattle.detfile.specs.Values.{line_judged}

-- a line without its line feed, which only the last may lack
pub data Line : Type 0 where
  ended : List ℕ → Line
  unended : List ℕ → Line

abbrev pub lines_on : List ℕ → List ℕ → List Line
lines_on front [] = cond (length front == 0) [] (unended front ∷ [])
lines_on front (b ∷ bs) = cond (b == 10) (ended front ∷ lines_on [] bs) (lines_on (front ++ b ∷ []) bs)

-- the lines of some bytes; nothing after the last line feed is no line
abbrev pub lines : List ℕ → List Line
lines bs = lines_on [] bs

-- the bytes of a line
abbrev pub written : Line → List ℕ
written (ended l) = l ++ 10 ∷ []
written (unended l) = l

-- how many value lines there are with this one after the n before, or the refusal of this one; value line n is line n + 1 of the file
abbrev pub line_counted : List Determinant → ℕ → Line → Result ℕ FileRefusal
line_counted ks n (ended l) = then (line_judged ks (n + 2) l) (λ _. Ok (n + 1))
line_counted ks n (unended l) = Err (Shape (n + 2))

-- how many value lines there are with these after the n before, or the refusal of the first that is at fault
abbrev pub lines_judged : List Determinant → ℕ → List Line → Result ℕ FileRefusal
lines_judged ks n [] = Ok n
lines_judged ks n (l ∷ ls) = then (line_counted ks n l) (λ m. lines_judged ks m ls)
