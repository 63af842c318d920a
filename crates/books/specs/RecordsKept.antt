-- A list of records as a store. Assumes nothing.
use Rattle.std.proofs.Common.{◌≡◌, ◌≤◌, List, [], ◌∷◌, ◌++◌, length, take, drop, sym, ap, ◌∙◌, arith, refl}
use Rattle.std.proofs.lemmas.List.{take-append-drop, length-take}
use Rattle.books.specs.declared.place.Place.{Place}
use Rattle.books.specs.Stores.{joined}

pub few_records : (xs : List Place) → length (take 32 xs) ≤ 32
few_records xs = let h = length-take 32 xs in omega (arith, h)

-- records are written as they are
pub one_each : (xs : List Place) → joined (λ x. x ∷ []) xs ≡ xs
unfolding joined
one_each [] = refl
one_each (x ∷ xs) = ap (λ ys. x ∷ ys) (one_each xs)

pub pinned_records : (xs : List Place) → xs ≡ joined (λ x. x ∷ []) (take 32 xs) ++ drop 32 xs
pinned_records xs = sym (take-append-drop 32 xs) ∙ ap (λ ys. ys ++ drop 32 xs) (sym (one_each (take 32 xs)))
