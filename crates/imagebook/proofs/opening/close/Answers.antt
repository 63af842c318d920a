use Rattle.std.proofs.Common.{◌*◌, drop, ap, ◌∙◌}
use Rattle.books.specs.ShelvesKept.{pinned_of}
use Rattle.image.specs.Places.{place_bytes}
use Rattle.imagebook.specs.Images.{places_in, image_of}
use Rattle.imagebook.specs.ImagesKept.{pinned_places}
use Rattle.imagebook.proofs.opening.close.Goals as goal

pub returns-clause-image : goal.returns-clause-image
unfolding image_of
returns-clause-image c =
    let b = c.args.book in
    let n = b.store.count in
    let bs = b.store.bytes.items in
    ap (λ s. s.bytes.items) c.into_store-bytes.ensures.store ∙ pinned_of place_bytes (drop (1544 * n) bs) bs (places_in n bs) b.used (pinned_places n bs b.store.within b.store.small b.store.formed) b.within b.free
