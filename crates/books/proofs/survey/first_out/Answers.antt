use Rattle.std.proofs.Common.{arith, sym, ◌∙◌}
use Rattle.books.proofs.Surveying.{out_here, out_later, out_nowhere}
use Rattle.books.proofs.survey.first_out.Goals as goal

pub returns-then-not-is_in_range : goal.returns-then-not-is_in_range
returns-then-not-is_in_range c = sym (out_here c.args.amounts.now c.loop-entity.entity c.loop-entity-test.true (sym c.if-not-is_in_range.ensures)) ∙ c.loop-entity.invariant

pub loop-entity-preserved : goal.loop-entity-preserved
loop-entity-preserved c = out_later c.args.amounts.now c.loop-entity.entity c.loop-entity-test.true (sym c.if-not-is_in_range.ensures) ∙ c.loop-entity.invariant

pub returns : goal.returns
returns c = sym (out_nowhere c.args.amounts.now c.loop-entity.entity c.loop-entity.entity (grind arith)) ∙ c.loop-entity.invariant
