-- Columns of which none stands twice. Assumes nothing.
use Rattle.std.specs.Prelude.{◌≡◌, false, List, [], ◌∷◌}
use Rattle.terms.specs.declared.determinant.Determinant.{Determinant}
use Rattle.detfile.specs.Names.{held}

abbrev pub Apart : List Determinant → Type 0
Apart [] = Unit {0}
Apart (k ∷ ks) = (held k ks ≡ false) × Apart ks
