use Rattle.std.proofs.Common.{◌≡◌, ◌*◌, arith, sym, ap, ◌∙◌}
use Rattle.std.proofs.lemmas.List.{set_past}
use Rattle.image.specs.Places.{place_bytes}
use Rattle.imagebook.specs.Images.{over, places_in}
use Rattle.imagebook.specs.ImagesKept.{length-places_in}
use Rattle.imagebook.proofs.Placing.{slots_after, beside_after, within_after, formed_after, small_after}
use Rattle.imagebook.proofs.bytes.ImageStore.put.Goals as goal

pub invariant_of-self : goal.invariant_of-self
invariant_of-self c =
    let s = c.args.self.now in
    let t = c.write_over.ensures.written in
    let e : c.write_over.new.bytes ≡ over (c.args.i * 1544) 1544 s.bytes.items (place_bytes c.args.place) = c.write_over.ensures.over ∙ ap (λ bs. over (c.args.i * 1544) 1544 bs (place_bytes c.args.place)) c.deref_mut.ensures.value in
    record {
      few = s.few;
      within = within_after s.bytes s.count c.args.i c.write_over.new.bytes c.args.place c.if-i-self.true s.within t e;
      small = small_after s.bytes s.count c.args.i c.write_over.new.bytes c.args.place c.if-i-self.true s.within t e s.small;
      formed = formed_after s.bytes s.count c.args.i c.write_over.new.bytes c.args.place c.if-i-self.true s.within t e s.formed;
    }

pub returns-then-i-self-clause-slots : goal.returns-then-i-self-clause-slots
returns-then-i-self-clause-slots c =
    let s = c.args.self.now in
    let e : c.write_over.new.bytes ≡ over (c.args.i * 1544) 1544 s.bytes.items (place_bytes c.args.place) = c.write_over.ensures.over ∙ ap (λ bs. over (c.args.i * 1544) 1544 bs (place_bytes c.args.place)) c.deref_mut.ensures.value in
    slots_after s.bytes s.count c.args.i c.write_over.new.bytes c.args.place c.if-i-self.true s.within c.write_over.ensures.written e

pub returns-then-i-self-clause-beside : goal.returns-then-i-self-clause-beside
returns-then-i-self-clause-beside c =
    let s = c.args.self.now in
    let e : c.write_over.new.bytes ≡ over (c.args.i * 1544) 1544 s.bytes.items (place_bytes c.args.place) = c.write_over.ensures.over ∙ ap (λ bs. over (c.args.i * 1544) 1544 bs (place_bytes c.args.place)) c.deref_mut.ensures.value in
    beside_after s.bytes s.count c.args.i c.write_over.new.bytes c.args.place c.if-i-self.true s.within c.write_over.ensures.written e

pub returns-else-i-self-clause-slots : goal.returns-else-i-self-clause-slots
returns-else-i-self-clause-slots c =
    let s = c.args.self.now in
    let n = length-places_in s.count s.bytes.items in
    let h = c.if-i-self.false in
    sym (set_past (places_in s.count s.bytes.items) c.args.i c.args.place (omega (arith, n, h)))
