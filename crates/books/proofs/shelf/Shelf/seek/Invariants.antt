use Rattle.std.proofs.Common.{take}
use Rattle.books.proofs.Seating.{Passed}
use Rattle.books.proofs.shelf.Shelf.seek.Given as goal

abbrev pub invariant-loop-index : goal.invariant-loop-index
invariant-loop-index g l = Passed l.day (take l.self.used (g.S.Store.slots l.self.store)) l.index
