use Rattle.std.proofs.Common.{◌≡◌, length, arith, subst}
use Rattle.books.proofs.Moving.{Freed, all_freed}
use Rattle.books.proofs.moves.clear.Goals as goal

pub returns-clause-slots : goal.returns-clause-slots
returns-clause-slots g c =
    let old = g.S.Store.slots c.args.store.now in
    let n = c.count-i-end.ensures in
    let e : c.loop-i.i ≡ length old = grind arith in
    all_freed old _ (subst (Freed old (g.S.Store.slots c.loop-i.store)) e c.loop-i.invariant.0)
