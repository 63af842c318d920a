use Rattle.std.proofs.Common.{◌≡◌, ◌/◌, [], length, get_or, arith, sym, ap, ◌∙◌}
use Rattle.std.proofs.lemmas.List.{get_or_past}
use Rattle.std.specs.Simd.{first_chunks}
use Rattle.image.specs.Places.{place_of}
use Rattle.books.specs.Places.{free}
use Rattle.imagebook.specs.Images.{places_in}
use Rattle.imagebook.specs.ImagesKept.{length-places_in}
use Rattle.imagebook.proofs.Placing.{place_at}
use Rattle.imagebook.proofs.bytes.ImageStore.place.Goals as goal

pub returns-then-i-self : goal.returns-then-i-self
returns-then-i-self c =
    let n = c.args.self.now.count in
    let bs = c.args.self.now.bytes.items in
    let e = length-places_in n bs in
    c.blank.ensures ∙ sym (get_or_past (places_in n bs) c.args.i free (let h = c.if-i-self.true in omega (arith, e, h)))

pub returns : goal.returns
returns c =
    let n = c.args.self.now.count in
    let bs = c.args.self.now.bytes.items in
    let f : c.as_chunks.result.0.now ≡ first_chunks 1544 (length bs / 1544) bs = c.as_chunks.ensures.front ∙ ap (λ z. first_chunks 1544 (length z / 1544) z) c.deref.ensures.value in
    let w = c.args.self.now.within in
    let l = c.if-i-self.false in
    c.place_of.ensures ∙ ap (λ z. place_of (get_or z c.args.i [])) f ∙ place_at n (length bs / 1544) c.args.i bs l (omega (arith, w, l))
