-- What a line of names says. Assumes nothing.
use Rattle.std.specs.Prelude.{ℕ, zero, suc, ◌-◌, Bool, false, cond, ◌&&◌, ◌||◌, List, [], ◌∷◌, ◌++◌, length, take, Some, None, codes, Option, ◌==◌, nat_le}
use Rattle.std.specs.Str.{bytes_eq}
use Rattle.terms.specs.declared.determinant.Determinant.{Determinant}
use Rattle.terms.specs.Determinants.{number_of, named}
use Rattle.figures.specs.Cuts.{first_field, past_field, spaces}
use Rattle.detfile.specs.declared.columns.Columns.{Columns}
use Rattle.detfile.specs.Keys.{values_part}

-- the most bytes that a line may have before its line feed
abbrev pub most_line : ℕ
most_line = 255

abbrev pub columns_in : Columns → List Determinant
columns_in c = take c.count c.determinants

abbrev pub held : Determinant → List Determinant → Bool
held d [] = false
held d (k ∷ ks) = number_of k == number_of d || held d ks

abbrev pub headed : List ℕ → Bool
headed bs = bytes_eq (first_field bs) (codes "DAY") && (bytes_eq (first_field (past_field bs)) (codes "UNIT") && bytes_eq (first_field (past_field (past_field bs))) (codes "INT"))

abbrev pub next_name : List Determinant → Option Determinant → (List Determinant → Option (List Determinant)) → Option (List Determinant)
next_name ks None f = None
next_name ks (Some k) f = cond (held k ks) None (f (ks ++ k ∷ []))

-- the determinants ks, and those of the next n names, none twice
abbrev pub names_on : ℕ → List Determinant → List ℕ → Option (List Determinant)
names_on zero ks bs = Some ks
names_on (suc n) ks bs = next_name ks (named (first_field bs)) (λ ls. names_on n ls (past_field bs))

-- at most 255 bytes, DAY, UNIT and INT, and then one or more names of determinants, none twice; a line has one field more than spaces
abbrev pub names_of : List ℕ → Option (List Determinant)
names_of bs = cond (nat_le (length bs) most_line && nat_le 3 (spaces bs)) (cond (headed bs) (names_on (spaces bs - 2) [] (values_part bs)) None) None
