use Rattle.intervals.specs.Askings.{Dividing}
use Rattle.intervals.proofs.asking.Inquiry.shares.Given as goal

abbrev pub invariant-loop-entity : goal.invariant-loop-entity
invariant-loop-entity g l = Dividing (g.S.Source.table l.self.source.now) l.self.slot.day l.self.slot.interval l.entity l.share-items l.sum
