use Rattle.std.proofs.Common.{◌≤◌, take, true, arith, refl}
use Rattle.terms.specs.Limits.{last_day}
use Rattle.books.proofs.Shelving.{seat_own, seat_marked}
use Rattle.books.proofs.calls.ShelfBook.reserve.Goals as goal

pub settle-requires-clause-seat : goal.settle-requires-clause-seat
settle-requires-clause-seat g c =
    let self = c.args.self.now in
    rw c.marked.ensures (seat_own _ (take self.used (g.S.Store.slots self.store)) c.seek-seat.result c.seek-seat.ensures.seat)

pub settle-requires-clause-sound : goal.settle-requires-clause-sound
settle-requires-clause-sound g c =
    let self = c.args.self.now in
    let b = c.book_day.ensures in
    let i = c.in_ok-day.is in
    let l : c.in_ok-day.day ≤ last_day = grind arith in
    rw c.marked.ensures (seat_marked _ (take self.used (g.S.Store.slots self.store)) c.seek-seat.result c.seek-seat.ensures.seat self.each true c.seek-seat.result.place.billed l refl)
