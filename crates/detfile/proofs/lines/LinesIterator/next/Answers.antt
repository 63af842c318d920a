use Rattle.std.proofs.Common.{length, ap, arith, false-eqb}
use Rattle.detfile.proofs.LineSteps.{line_more, line_open}
use Rattle.detfile.proofs.lines.LinesIterator.next.Goals as goal

pub returns-in-Some-clause-steps : goal.returns-in-Some-clause-steps
returns-in-Some-clause-steps c = line_more c.args.self.now.rest.now _ c.in-Some.ensures.parts

pub returns-in-Some-clause-goes : goal.returns-in-Some-clause-goes
returns-in-Some-clause-goes c =
    let more = line_more c.args.self.now.rest.now _ c.in-Some.ensures.parts in
    record { on = λ _. (tt, tt, omega (arith, ap length more)); keeps = tt; rests = λ _. tt }

pub returns-in-None-clause-steps : goal.returns-in-None-clause-steps
returns-in-None-clause-steps c = line_open c.args.self.now.rest.now c.in-None.ensures.parts (false-eqb _ 0 c.if-is_empty.ensures)

pub returns-in-None-clause-goes : goal.returns-in-None-clause-goes
returns-in-None-clause-goes c =
    let last = line_open c.args.self.now.rest.now c.in-None.ensures.parts (false-eqb _ 0 c.if-is_empty.ensures) in
    record { on = λ _. (tt, tt, omega (arith, ap length last)); keeps = tt; rests = λ _. tt }
