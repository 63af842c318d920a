-- What the fields of the determinants say. Assumes nothing.
use Rattle.std.specs.Prelude.{ℕ, ◌+◌, Bool, cond, ◌&&◌, List, [], ◌∷◌, length, ℤ, Some, None, Ok, Err, Option, Result, ◌==◌, nat_le}
use Rattle.terms.specs.declared.determinant.Determinant.{Determinant}
use Rattle.figures.specs.Cuts.{first_field, past_field, spaces}
use Rattle.figures.specs.Numbers.{stored}
use Rattle.figures.specs.Tokens.{Seen, nothing, every, number, token_of}
use Rattle.figures.specs.declared.numbers.Fault.{Fault}
use Rattle.figures.specs.declared.numbers.Fault.TheVariants.{Form}
use Rattle.detfile.specs.declared.refusal.FileRefusal.{FileRefusal}
use Rattle.detfile.specs.declared.refusal.FileRefusal.TheVariants.{Shape}
use Rattle.detfile.specs.Keys.{then, key_of, values_part}
use Rattle.detfile.specs.Names.{most_line}
use Rattle.detfile.specs.Refusals.{fault_at}

-- what a token gives a determinant: a dash nothing, and a star is no number
abbrev pub given_by : Determinant → Seen → Result (Option ℤ) Fault
given_by k nothing = Ok None
given_by k every = Err Form
given_by k (number part) = then (stored k part) (λ z. Ok (Some z))

abbrev pub given : Determinant → List ℕ → Result (Option ℤ) Fault
given k bs = given_by k (token_of bs)

-- the fields of the determinants, from left to right
abbrev pub values_fault : List Determinant → List ℕ → Result (Unit {0}) Fault
values_fault [] bs = Ok tt
values_fault (k ∷ ks) bs = then (given k (first_field bs)) (λ _. values_fault ks (past_field bs))

-- the fields of a line, from left to right
abbrev pub fields_fault : List Determinant → List ℕ → Result (Unit {0}) Fault
fields_fault ks bs = then (key_of bs) (λ _. values_fault ks (values_part bs))

abbrev pub located : ℕ → Result (Unit {0}) Fault → Result (Unit {0}) FileRefusal
located n (Ok x) = Ok tt
located n (Err e) = Err (fault_at e n)

-- a line's length and number of fields, three and one for each column
abbrev pub shaped : List Determinant → List ℕ → Bool
shaped ks bs = nat_le (length bs) most_line && spaces bs == length ks + 2

-- line n of the file, a value line: its length and number of fields, then its fields
abbrev pub line_judged : List Determinant → ℕ → List ℕ → Result (Unit {0}) FileRefusal
line_judged ks n bs = cond (shaped ks bs) (located n (fields_fault ks bs)) (Err (Shape n))
