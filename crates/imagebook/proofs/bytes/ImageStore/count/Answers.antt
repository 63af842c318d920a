use Rattle.std.proofs.Common.{sym}
use Rattle.imagebook.specs.ImagesKept.{length-places_in}
use Rattle.imagebook.proofs.bytes.ImageStore.count.Goals as goal

pub returns : goal.returns
returns c = sym (length-places_in c.args.self.now.count c.args.self.now.bytes.items)
