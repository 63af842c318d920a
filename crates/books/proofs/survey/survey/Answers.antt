use Rattle.std.proofs.Common.{arith, rules, sym, ◌∙◌, ap, subst}
use Rattle.books.specs.Surveys.{Shaped, step}
use Rattle.books.proofs.Surveying.{survey_more, survey_stops, survey_ends}
use Rattle.books.proofs.survey.survey.Goals as goal

pub returns-in_err-front-clause-value : goal.returns-in_err-front-clause-value
returns-in_err-front-clause-value g c =
    let told = sym c.in_err-front.was ∙ c.step.ensures ∙ ap (step c.loop-index.front c.loop-index.index) c.place.ensures in
    let h = survey_stops (g.S.Store.slots c.args.store.now) c.loop-index.index c.loop-index.front c.loop-index.invariant _ (grind arith) told in
    search rules

pub loop-index-preserved : goal.loop-index-preserved
loop-index-preserved g c =
    let told = sym c.in_ok-front.was ∙ c.step.ensures ∙ ap (step c.loop-index.front c.loop-index.index) c.place.ensures in
    let l : Shaped c.place.result = record { day = search rules; long = search rules } in
    survey_more (g.S.Store.slots c.args.store.now) c.loop-index.index c.loop-index.front c.loop-index.invariant _ (grind arith) told (subst Shaped c.place.ensures l)

pub returns-clause-value : goal.returns-clause-value
returns-clause-value g c = survey_ends (g.S.Store.slots c.args.store.now) c.loop-index.index c.loop-index.front c.loop-index.invariant (grind arith)
