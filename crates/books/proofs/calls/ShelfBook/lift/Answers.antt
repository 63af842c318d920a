use Rattle.std.proofs.Common.{◌≡◌, ◌≤◌, take, true, false, arith, refl, rules}
use Rattle.terms.specs.Limits.{last_day}
use Rattle.books.specs.Calls.{lifting}
use Rattle.books.proofs.Shelving.{seat_own, seat_marked, seat_held, seat_day}
use Rattle.books.proofs.calls.ShelfBook.lift.Goals as goal

pub settle-requires-clause-seat : goal.settle-requires-clause-seat
settle-requires-clause-seat g c =
    let self = c.args.self.now in
    rw c.marked.ensures (seat_own _ (take self.used (g.S.Store.slots self.store)) c.seek-seat.result c.seek-seat.ensures.seat)

pub settle-requires-clause-sound : goal.settle-requires-clause-sound
settle-requires-clause-sound g c =
    let self = c.args.self.now in
    let b = c.book_day.ensures in
    let i = c.in_ok-day.is in
    let l : c.in_ok-day.day ≤ last_day = grind arith in
    rw c.marked.ensures (seat_marked _ (take self.used (g.S.Store.slots self.store)) c.seek-seat.result c.seek-seat.ensures.seat self.each false true l refl)

pub settle-requires-clause-room : goal.settle-requires-clause-room
settle-requires-clause-room g c n =
    let self = c.args.self.now in
    let r : c.seek-seat.result.place.reserved ≡ true = search rules in
    let h = seat_held _ (take self.used (g.S.Store.slots self.store)) c.seek-seat.result c.seek-seat.ensures.seat self.each r in
    grind arith

pub remove-requires-clause-seat : goal.remove-requires-clause-seat
remove-requires-clause-seat g c =
    let self = c.args.self.now in
    seat_own _ (take self.used (g.S.Store.slots self.store)) c.seek-seat.result c.seek-seat.ensures.seat

pub remove-requires-clause-held : goal.remove-requires-clause-held
remove-requires-clause-held g c =
    let self = c.args.self.now in
    let r : c.seek-seat.result.place.reserved ≡ true = search rules in
    seat_held _ (take self.used (g.S.Store.slots self.store)) c.seek-seat.result c.seek-seat.ensures.seat self.each r

pub returns-else-seat-clause-kept : goal.returns-else-seat-clause-kept
unfolding lifting
returns-else-seat-clause-kept g c =
    let self = c.args.self.now in
    let e = seat_day _ (take self.used (g.S.Store.slots self.store)) c.seek-seat.result c.seek-seat.ensures.seat in
    search rules
