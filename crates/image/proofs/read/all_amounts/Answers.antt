use Rattle.std.proofs.Common.{[], get_or, rules}
use Rattle.amounts.specs.Triples.{none}
use Rattle.image.specs.Places.{amounts_of}
use Rattle.image.proofs.Lists.{made}
use Rattle.image.proofs.Reading.{all_read, after_head, part_count}
use Rattle.image.proofs.read.all_amounts.Goals as goal

pub returns : goal.returns
returns c =
    let bytes = c.args.bytes.now in
    let parts = c.as_chunks.result.0.now in
    all_read _ bytes _ parts _ (part_count bytes c.told-bytes) (after_head bytes c.told-bytes) c.as_chunks.ensures.front c.from_fn.ensures.items.long
    (λ i l. made c.from_fn.ensures.items (λ k. amounts_of (get_or parts k [])) (λ k y f' h. search rules) i none l)
