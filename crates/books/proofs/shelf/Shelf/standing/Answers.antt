use Rattle.std.proofs.Common.{sym, ◌∙◌}
use Rattle.books.proofs.Standing.{Fit, fit}
use Rattle.books.proofs.shelf.Shelf.standing.Goals as goal

pub invariant_of-result : goal.invariant_of-result
invariant_of-result g c =
    let xs = g.S.Store.slots c.args.store in
    let f : Fit xs c.in-Ok.used = fit xs c.in-Ok.used (sym c.survey.ensures.value ∙ c.in-Ok.is) c.in-Ok.ensures.shaped in
    record { within = f.within; free = f.free; rising = f.rising; each = f.each }
