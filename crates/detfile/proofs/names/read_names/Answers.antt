use Rattle.std.proofs.Common.{◌≡◌, ◌+◌, ◌-◌, Some, length, sym, ap, ◌∙◌, arith, rules}
use Rattle.std.proofs.lemmas.List.{length_push}
use Rattle.detfile.specs.Names.{columns_in, names_on}
use Rattle.terms.specs.Determinants.{named}
use Rattle.figures.specs.Cuts.{first_field, past_field}
use Rattle.detfile.proofs.NameSteps.{names_twice, names_more}
use Rattle.detfile.proofs.names.read_names.Goals as goal

pub returns-then-contains : goal.returns-then-contains
returns-then-contains c =
    let d = c.in_ok-determinant.determinant in
    let name : Some d ≡ named (first_field c.loop.rest.now) = search rules in
    sym (names_twice c.args.count c.loop.counter (columns_in c.loop.columns) c.loop.rest.now c.loop-test.true d name (sym c.if-contains.ensures)) ∙ c.loop.invariant.0

pub loop-preserved : goal.loop-preserved
loop-preserved c =
    let d = c.in_ok-determinant.determinant in
    let name : Some d ≡ named (first_field c.loop.rest.now) = search rules in (
      ap (names_on (c.args.count - (c.loop.counter + 1)) _) c.cut_field.ensures.left
          ∙ ap (λ l. names_on (c.args.count - (c.loop.counter + 1)) l (past_field c.loop.rest.now)) c.push.ensures
          ∙ sym (names_more c.args.count c.loop.counter (columns_in c.loop.columns) c.loop.rest.now c.loop-test.true d name (sym c.if-contains.ensures))
          ∙ c.loop.invariant.0,
      ap length c.push.ensures ∙ length_push _ _ ∙ omega arith,
    )
