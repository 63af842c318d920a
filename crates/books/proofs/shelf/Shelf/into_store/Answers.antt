use Rattle.std.proofs.Common.{sym}
use Rattle.books.specs.ShelvesKept.{laid_is}
use Rattle.books.proofs.shelf.Shelf.into_store.Goals as goal

pub returns-clause-slots : goal.returns-clause-slots
returns-clause-slots g c = sym (laid_is (g.S.Store.slots c.args.self.store) c.args.self.used c.args.self.within c.args.self.free)
