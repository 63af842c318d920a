use Rattle.std.proofs.Common.{arith}
use Rattle.std.proofs.lemmas.List.{length-take}
use Rattle.books.proofs.records.RecordsStore.count.Goals as goal

pub returns : goal.returns
returns c = let e = c.min.ensures in let h = length-take 32 c.args.self.now.records.items in grind arith
