use Rattle.std.proofs.Common.{◌≡◌, ◌-◌, ◌≤◌, cond, ◌==◌}
use Rattle.books.specs.Places.{at}
use Rattle.books.specs.Stores.{Opened}
use Rattle.books.proofs.moves.open_gap.Given as goal

abbrev pub invariant-loop-j : goal.invariant-loop-j
invariant-loop-j g l =
    Opened (g.S.Store.slots l.initial.store) (g.S.Store.slots l.store) l.i l.j l.fn.place
    × (l.carried ≡ cond (l.j == l.i) l.fn.place (at (g.S.Store.slots l.initial.store) (l.j - 1)))
    × (g.S.Store.beside l.store ≡ g.S.Store.beside l.initial.store)
    × (l.i ≤ l.j)
