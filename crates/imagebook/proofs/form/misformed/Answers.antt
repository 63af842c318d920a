use Rattle.std.proofs.Common.{arith, sym, ◌∙◌}
use Rattle.imagebook.proofs.Forming.{form_here, form_later, form_nowhere}
use Rattle.imagebook.proofs.form.misformed.Goals as goal

pub returns-in-Err : goal.returns-in-Err
returns-in-Err c = sym (form_here c.args.places.now c.loop-index.index c.in-Err.fault c.loop-index-test.true (sym c.read_place.ensures ∙ c.in-Err.is)) ∙ c.loop-index.invariant

pub loop-index-preserved : goal.loop-index-preserved
loop-index-preserved c = form_later c.args.places.now c.loop-index.index c.in_default.field-0 c.loop-index-test.true (sym c.read_place.ensures ∙ c.in_default.is) ∙ c.loop-index.invariant

pub returns : goal.returns
returns c = sym (form_nowhere c.args.places.now c.loop-index.index (grind arith)) ∙ c.loop-index.invariant
