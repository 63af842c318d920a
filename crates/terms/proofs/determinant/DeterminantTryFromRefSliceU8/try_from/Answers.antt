use Rattle.std.proofs.Common.{rules}
use Rattle.std.specs.Str.{bytes_eq}
use Rattle.std.proofs.lemmas.Iterator.{YieldsList-from_slice}
use Rattle.std.proofs.lemmas.Iterator.Search.{find_from_yields_List}
use Rattle.terms.proofs.determinant.DeterminantTryFromRefSliceU8.try_from.Goals as goal

pub returns : goal.returns
returns c =
    let chosen = find_from_yields_List (λ row. bytes_eq c.args.name.now row.name.now) _ _ _ c.find.ensures.ran (YieldsList-from_slice _ c.iter.ensures.rest) (λ x b q k. (search rules, search rules)) in
    search rules
