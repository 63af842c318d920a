use Rattle.accounts.proofs.Keeping.{withdraw_by, withdraw_known_by}
use Rattle.accounts.proofs.reservation.withdraw.Goals as goal

pub returns-clause-law : goal.returns-clause-law
returns-clause-law g c =
    let lifted = simp c.spend.ensures.day at c.lift_unbilled.ensures in
    withdraw_by _ _ c.args.slip.day _ lifted.answer lifted.kept (g.met.B.Book.sound c.args.book.now).rising

pub returns-clause-known : goal.returns-clause-known
returns-clause-known g c =
    let lifted = simp c.spend.ensures.day at c.lift_unbilled.ensures in
    withdraw_known_by _ c.args.slip.day _ lifted.answer c.args.slip.inside
