use Rattle.std.proofs.Common.{◌≡◌, true, false, take, arith, sym, ◌∙◌, refl, length-set}
use Rattle.books.specs.Kept.{holds_in}
use Rattle.books.proofs.Puts.{put_rising, put_all, take_held, take_new, free_held, free_new, seat_within, seat_below}
use Rattle.books.proofs.shelf.Shelf.settle.Goals as goal

pub invariant_of-self : goal.invariant_of-self
invariant_of-self g c =
    let self = c.args.self.now in
    let xs = g.S.Store.slots self.store in
    let s = c.requires.seat in
    let h : holds_in c.args.place.day (take self.used xs) ≡ true = sym s.held ∙ c.if-seat.true in
    let l = seat_below c.args.place.day xs self.used c.args.seat self.within s c.if-seat.true in
    let e = take_held xs self.used c.args.place self.within c.args.seat.index s.index h in
    record {
      within = rw (c.put.ensures.slots, length-set xs c.args.seat.index c.args.place) self.within;
      free = λ q m. rw c.put.ensures.slots (free_held xs self.used c.args.place self.within self.free c.args.seat.index l q m);
      rising = rw (c.put.ensures.slots, e) (put_rising c.args.place (take self.used xs) self.rising);
      each = rw (c.put.ensures.slots, e) (put_all c.args.place (take self.used xs) c.requires.sound self.each);
    }

pub open_gap-requires-clause-within : goal.open_gap-requires-clause-within
open_gap-requires-clause-within g c =
    seat_within c.args.place.day (g.S.Store.slots c.args.self.now.store) c.args.self.now.used c.args.seat c.args.self.now.within c.requires.seat

pub invariant_of-self-else-seat : goal.invariant_of-self-else-seat
invariant_of-self-else-seat g c =
    let self = c.args.self.now in
    let xs = g.S.Store.slots self.store in
    let s = c.requires.seat in
    let o = c.open_gap.ensures.opened in
    let r = c.requires.room c.if-seat.false in
    let h : holds_in c.args.place.day (take self.used xs) ≡ false = sym s.held ∙ c.if-seat.false in
    let e = take_new xs self.used c.args.place self.within _ c.args.seat.index r o s.index h in
    let l = o.long in
    record {
      within = omega (arith, l, r);
      free = λ q m. free_new xs self.used c.args.place self.within self.free _ c.args.seat.index o q m;
      rising = rw e (put_rising c.args.place (take self.used xs) self.rising);
      each = rw e (put_all c.args.place (take self.used xs) c.requires.sound self.each);
    }

pub returns-then-seat-clause-kept : goal.returns-then-seat-clause-kept
returns-then-seat-clause-kept g c =
    let self = c.args.self.now in
    let xs = g.S.Store.slots self.store in
    let s = c.requires.seat in
    let h : holds_in c.args.place.day (take self.used xs) ≡ true = sym s.held ∙ c.if-seat.true in
    let e = take_held xs self.used c.args.place self.within c.args.seat.index s.index h in
    let n = length-set xs c.args.seat.index c.args.place in
    rw c.put.ensures.slots (rw (e, n) refl)

pub returns-else-seat-clause-kept : goal.returns-else-seat-clause-kept
returns-else-seat-clause-kept g c =
    let self = c.args.self.now in
    let xs = g.S.Store.slots self.store in
    let s = c.requires.seat in
    let o = c.open_gap.ensures.opened in
    let h : holds_in c.args.place.day (take self.used xs) ≡ false = sym s.held ∙ c.if-seat.false in
    let e = take_new xs self.used c.args.place self.within _ c.args.seat.index (c.requires.room c.if-seat.false) o s.index h in
    rw (e, o.long) refl
