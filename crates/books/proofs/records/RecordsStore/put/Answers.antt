use Rattle.std.proofs.Common.{arith, drop-set-lt}
use Rattle.std.proofs.Math.Seq.{take-set-lt}
use Rattle.std.proofs.lemmas.List.{length-take}
use Rattle.books.proofs.records.RecordsStore.put.Goals as goal

pub index_mut-requires : goal.index_mut-requires
index_mut-requires c = let e = c.count.ensures in let h = length-take 32 c.args.self.now.records.items in grind arith

pub returns-then-i-count-clause-slots : goal.returns-then-i-count-clause-slots
returns-then-i-count-clause-slots c =
    let e = c.count.ensures in let h = length-take 32 c.args.self.now.records.items in
    take-set-lt 32 c.args.self.now.records.items c.args.i c.args.place (grind arith)

pub returns-then-i-count-clause-beside : goal.returns-then-i-count-clause-beside
returns-then-i-count-clause-beside c =
    let e = c.count.ensures in let h = length-take 32 c.args.self.now.records.items in
    drop-set-lt 32 c.args.self.now.records.items c.args.i c.args.place (grind arith)
