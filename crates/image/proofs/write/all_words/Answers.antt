use Rattle.std.proofs.Common.{◌≡◌, ℕ, ◌<◌, [], get_or, length, rules, arith, subst, sym, inl, inr}
use Rattle.std.proofs.lemmas.Bool.{cases_lt}
use Rattle.std.proofs.lemmas.List.{get_or_past}
use Rattle.image.specs.Laws.{Fits}
use Rattle.image.proofs.Exact.{none_fits}
use Rattle.amounts.specs.Triples.{none}
use Rattle.image.specs.Places.{words}
use Rattle.image.proofs.Lists.{mapped}
use Rattle.image.proofs.write.all_words.Goals as goal

pub returns-clause-words : goal.returns-clause-words
returns-clause-words c =
    let m : (i : ℕ) → i < 64 → get_or c.map.result i [] ≡ words (get_or c.args.amounts i none) = λ i h. let k = c.map.ensures.items.at i none [] h in search rules in
    let n : length c.args.amounts ≡ 64 = search rules in
    mapped words _ _ none [] (search rules) (λ i k. m i (search rules))

pub returns-clause-fits : goal.returns-clause-fits
returns-clause-fits c q =
    let n : length c.args.amounts ≡ 64 = search rules in
    elim (cases_lt q 64) [
      | inl h ↦ (let k = c.map.ensures.items.at q none [] h in search rules)
      | inr h ↦ subst Fits (sym (get_or_past c.args.amounts q none (omega (arith, n, h)))) none_fits
    ]
