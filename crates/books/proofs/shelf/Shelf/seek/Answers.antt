use Rattle.std.proofs.Common.{arith, take}
use Rattle.books.proofs.Seating.{left, passed_more, seat_here}
use Rattle.books.proofs.shelf.Shelf.seek.Goals as goal

pub returns-then-place-day-clause-seat : goal.returns-then-place-day-clause-seat
returns-then-place-day-clause-seat g c =
    let xs = g.S.Store.slots c.args.self.now.store in
    let u = c.args.self.now.used in
    let i = c.loop-index.index in
    let e = left xs u i (omega arith) c.args.self.now.within in
    seat_here c.args.day (take u xs) i c.place-place.result (rw c.place-place.ensures e) c.loop-index.invariant (omega arith)

pub loop-index-preserved : goal.loop-index-preserved
loop-index-preserved g c =
    let xs = g.S.Store.slots c.args.self.now.store in
    let u = c.args.self.now.used in
    let i = c.loop-index.index in
    let e = left xs u i (omega arith) c.args.self.now.within in
    passed_more c.args.day (take u xs) i c.place-place.result (rw c.place-place.ensures e) c.loop-index.invariant (omega arith)
