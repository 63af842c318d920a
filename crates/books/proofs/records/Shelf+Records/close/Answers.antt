use Rattle.std.proofs.Common.{◌++◌, take, drop, sym, ap, ◌∙◌}
use Rattle.std.proofs.lemmas.List.{take-append-drop}
use Rattle.books.specs.ShelvesKept.{laid_is}
use Rattle.books.proofs.records.Shelf+Records.close.Goals as goal

pub returns : goal.returns
returns c =
    let xs = c.args.self.store.records.items in
    ap (λ s. s.records.items) c.into_store-records.ensures.store ∙ sym (take-append-drop 32 xs) ∙ ap (λ ys. ys ++ drop 32 xs) (sym (laid_is (take 32 xs) c.args.self.used c.args.self.within c.args.self.free))
