use Rattle.std.proofs.Common.{◌≡◌, take, arith, rules, get_or-take}
use Rattle.std.proofs.lemmas.List.{length-take, get_or_past}
use Rattle.books.specs.Places.{at, free}
use Rattle.books.proofs.records.RecordsStore.place.Goals as goal

pub returns-then-i-ge-MOST_PLACES : goal.returns-then-i-ge-MOST_PLACES
returns-then-i-ge-MOST_PLACES c =
    let xs = c.args.self.now.records.items in
    let h = length-take 32 xs in
    let p : at (take 32 xs) c.args.i ≡ free = get_or_past (take 32 xs) c.args.i free (grind arith) in
    search rules

pub returns : goal.returns
returns c =
    let xs = c.args.self.now.records.items in
    let h : at (take 32 xs) c.args.i ≡ at xs c.args.i = get_or-take 32 xs c.args.i free (omega arith) in
    search rules
