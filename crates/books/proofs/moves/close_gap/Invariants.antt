use Rattle.std.proofs.Common.{◌≡◌, ◌<◌}
use Rattle.books.proofs.Moving.{Closing}
use Rattle.books.proofs.moves.close_gap.Given as goal

abbrev pub invariant-loop-j : goal.invariant-loop-j
invariant-loop-j g l =
    Closing (g.S.Store.slots l.initial.store) (g.S.Store.slots l.store) l.i l.j
    × (g.S.Store.beside l.store ≡ g.S.Store.beside l.initial.store)
    × (l.i < l.j)
