use Rattle.accounts.proofs.Keeping.{reserve_by, out_by}
use Rattle.accounts.proofs.reservation.reserve.Goals as goal

pub returns-clause-law : goal.returns-clause-law
returns-clause-law g c = reserve_by _ _ c.args.day _ c.slip_for.ensures.answer c.slip_for.ensures.kept

pub returns-clause-out : goal.returns-clause-out
returns-clause-out g c = out_by _ c.args.day _ c.slip_for.ensures.answer
