use Rattle.books.proofs.Surveying.{Surveyed}
use Rattle.books.proofs.survey.survey.Given as goal

abbrev pub invariant-loop-index : goal.invariant-loop-index
invariant-loop-index g l = Surveyed (g.S.Store.slots l.store) l.index l.front
