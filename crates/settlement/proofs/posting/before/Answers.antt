use Rattle.std.proofs.Common.{length, ap, ◌∙◌, arith, length-set}
use Rattle.books.specs.Kept.{entry}
use Rattle.books.proofs.Sounds.{entry_amounted}
use Rattle.settlement.proofs.Billed.{before_is, row_more}
use Rattle.settlement.proofs.posting.before.Goals as goal

pub loop-entity-init : goal.loop-entity-init
loop-entity-init g c = record { long = ap length c.no_amounts-amounts.ensures; rows = λ within q lt. absurd (omega arith) }

pub loop-entity-preserved : goal.loop-entity-preserved
loop-entity-preserved g c =
    let now = c.loop-entity.invariant in
    record {
      long = length-set c.loop-entity.row-items c.loop-entity.entity _ ∙ now.long;
      rows = λ within. row_more c.loop-entity.row-items (entry (g.B.Book.kept c.args.book.now) c.args.day).amounts c.loop-entity.entity c.account_of.result.amounts (rw now.long c.loop-entity-test.true) (now.rows within) (ap (λ z. z.amounts) (c.account_of.ensures within));
    }

pub returns : goal.returns
returns g c within =
    let k = g.B.Book.kept c.args.book.now in
    let now = c.loop-entity.invariant in
    before_is k c.args.day c.account_of-billed.result.billed c.loop-entity.row-items now.long (entry_amounted c.args.day k.held (g.met.B.Book.sound c.args.book.now).each).long
    (λ q lt. now.rows within q (omega arith)) (ap (λ z. z.billed) (c.account_of-billed.ensures within))
