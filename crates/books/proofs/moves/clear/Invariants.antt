use Rattle.std.proofs.Common.{◌≡◌}
use Rattle.books.proofs.Moving.{Freed}
use Rattle.books.proofs.moves.clear.Given as goal

abbrev pub invariant-loop-i : goal.invariant-loop-i
invariant-loop-i g l =
    Freed (g.S.Store.slots l.initial.store) (g.S.Store.slots l.store) l.i
    × (g.S.Store.beside l.store ≡ g.S.Store.beside l.initial.store)
