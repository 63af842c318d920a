use Rattle.std.proofs.Common.{◌≡◌, true, take, arith, sym, ◌∙◌, refl}
use Rattle.books.specs.Kept.{holds_in}
use Rattle.books.proofs.Puts.{cut_rising, cut_all, take_cut, free_cut, seat_below}
use Rattle.books.proofs.shelf.Shelf.remove.Goals as goal

pub close_gap-requires-clause-within : goal.close_gap-requires-clause-within
close_gap-requires-clause-within g c =
    seat_below c.args.seat.place.day (g.S.Store.slots c.args.self.now.store) c.args.self.now.used c.args.seat c.args.self.now.within c.requires.seat c.requires.held

pub invariant_of-self : goal.invariant_of-self
invariant_of-self g c =
    let self = c.args.self.now in
    let xs = g.S.Store.slots self.store in
    let s = c.requires.seat in
    let d = c.args.seat.place.day in
    let o = c.close_gap.ensures.closed in
    let h : holds_in d (take self.used xs) ≡ true = sym s.held ∙ c.requires.held in
    let e = take_cut xs _ self.used d c.args.seat.index self.within o s.index h in
    let l = o.long in
    let w = self.within in
    record {
      within = omega (arith, l, w);
      free = free_cut xs _ self.used d c.args.seat.index self.within o s.index h self.free;
      rising = rw e (cut_rising d (take self.used xs) self.rising);
      each = rw e (cut_all d (take self.used xs) self.each);
    }

pub returns-clause-kept : goal.returns-clause-kept
returns-clause-kept g c =
    let self = c.args.self.now in
    let xs = g.S.Store.slots self.store in
    let s = c.requires.seat in
    let d = c.args.seat.place.day in
    let o = c.close_gap.ensures.closed in
    let h : holds_in d (take self.used xs) ≡ true = sym s.held ∙ c.requires.held in
    let e = take_cut xs _ self.used d c.args.seat.index self.within o s.index h in
    rw (e, o.long) refl
