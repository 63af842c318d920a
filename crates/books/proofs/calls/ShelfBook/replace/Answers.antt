use Rattle.std.proofs.Common.{◌≡◌, ◌≤◌, take, true, arith, rules}
use Rattle.terms.specs.Limits.{last_day}
use Rattle.books.specs.Places.{in_range}
use Rattle.books.proofs.Shelving.{seat_own, seat_replaced, seat_held}
use Rattle.books.proofs.calls.ShelfBook.replace.Goals as goal

pub settle-requires-clause-seat : goal.settle-requires-clause-seat
settle-requires-clause-seat g c =
    let self = c.args.self.now in
    rw c.replaced.ensures (seat_own _ (take self.used (g.S.Store.slots self.store)) c.seek-seat.result c.seek-seat.ensures.seat)

pub settle-requires-clause-sound : goal.settle-requires-clause-sound
settle-requires-clause-sound g c =
    let self = c.args.self.now in
    let b = c.book_day.ensures in
    let i = c.in_ok-day.is in
    let l : c.in_ok-day.day ≤ last_day = grind arith in
    let h : in_range c.args.amounts ≡ true = search rules in
    let r : c.seek-seat.result.place.reserved ≡ true = search rules in
    rw c.replaced.ensures (seat_replaced _ (take self.used (g.S.Store.slots self.store)) c.seek-seat.result c.seek-seat.ensures.seat self.each _ _ l h r)

pub settle-requires-clause-room : goal.settle-requires-clause-room
settle-requires-clause-room g c n =
    let self = c.args.self.now in
    let r : c.seek-seat.result.place.reserved ≡ true = search rules in
    let h = seat_held _ (take self.used (g.S.Store.slots self.store)) c.seek-seat.result c.seek-seat.ensures.seat self.each r in
    grind arith
