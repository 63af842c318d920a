-- The bytes of all amounts, put together from the words of each.
use Rattle.std.proofs.Common.{◌≡◌, List, [], ◌∷◌, map, arith, refl, append_assoc}
use Rattle.std.proofs.lemmas.List.Concat.{flat_map-append}
use Rattle.std.specs.List.{flat_map}
use Rattle.amounts.specs.declared.row.Amounts.{Amounts}
use Rattle.image.specs.Places.{words, amounts_bytes}

pub flattened : (xs : List Amounts) → flat_map (λ x. x) (flat_map (λ x. x) (map words xs)) ≡ flat_map amounts_bytes xs
flattened [] = refl
flattened (x ∷ xs) =
    let h = flattened xs in
    let g = flat_map-append (λ y. y) (words x) (flat_map (λ y. y) (map words xs)) in
    grind (arith, append_assoc)
