use Rattle.std.proofs.Common.{refl, ap, arith}
use Rattle.std.proofs.lemmas.Result.{err_from_is_err_and}
use Rattle.terms.specs.Sources.{Table}
use Rattle.intervals.specs.Courses.{next, summed}
use Rattle.intervals.proofs.Dividing.{share_stops, shares_none, shares_more, shares_all, shares_off}
use Rattle.intervals.proofs.asking.Inquiry.shares.Goals as goal

pub loop-entity-init : goal.loop-entity-init
loop-entity-init g c = shares_none _ _ _ _ refl

pub loop-entity-preserved : goal.loop-entity-preserved
loop-entity-preserved g c =
    let t : Table = g.S.Source.table c.args.self.now.source.now in
    let said = c.in_ok-part.ensures in
    shares_more t c.args.self.now.slot.day c.args.self.now.slot.interval c.loop-entity.entity c.loop-entity.share-items c.loop-entity.sum c.in_ok-part.part c.loop-entity-test.true c.loop-entity.invariant said.0 said.1.0 said.1.1

pub returns-in_err-part : goal.returns-in_err-part
returns-in_err-part g c =
    let t : Table = g.S.Source.table c.args.self.now.source.now in
    let p = err_from_is_err_and c.from_residual.result c.from_residual.ensures.1 in
    let stop = share_stops t c.args.self.now.slot.day c.args.self.now.slot.interval c.loop-entity.entity 64 c.in_err-part.field-0.0 c.loop-entity-test.true c.loop-entity.invariant.course c.in_err-part.ensures in
    rw (p.1, p.2) (ap (λ a. next a (summed t c.args.self.now.slot.day c.args.self.now.slot.interval)) stop)

pub returns-then-sum-ne-WHOLE_LOAD : goal.returns-then-sum-ne-WHOLE_LOAD
returns-then-sum-ne-WHOLE_LOAD g c =
    let t : Table = g.S.Source.table c.args.self.now.source.now in
    rw c.new.ensures (shares_off t c.args.self.now.slot.day c.args.self.now.slot.interval c.loop-entity.entity c.loop-entity.share-items c.loop-entity.sum (omega arith) c.if-sum-ne-WHOLE_LOAD.true c.loop-entity.invariant)

pub returns : goal.returns
returns g c =
    let t : Table = g.S.Source.table c.args.self.now.source.now in
    shares_all t c.args.self.now.slot.day c.args.self.now.slot.interval c.loop-entity.entity c.loop-entity.share-items c.loop-entity.sum (omega arith) c.if-sum-ne-WHOLE_LOAD.false c.loop-entity.invariant
