use Rattle.std.proofs.Common.{◌≡◌, sym, arith}
use Rattle.std.proofs.lemmas.Grind.{common_steps}
use Rattle.terms.specs.declared.answer.Answer.TheVariants.{NoCut}
use Rattle.filesource.specs.Asks.{asked}
use Rattle.filesource.proofs.AskSteps.{asked_open, asked_law}
use Rattle.filesource.proofs.asking.FileSourceSource.ask.Goals as goal

pub returns-in-Ok : goal.returns-in-Ok
returns-in-Ok c =
    let q = c.args.question in
    let s = c.args.self.now in
    let file = c.in-Ok.content in
    let table = asked_open s.bytes.now q.determinant q.unit q.day q.interval c.ask_lines.result _ _ (sym c.if-not-is_inside.ensures) (s.headed file c.in-Ok.is) (s.valued file c.in-Ok.is) c.ask_lines.ensures in
    record { table = table; law = asked_law s.bytes.now q.determinant q.unit q.day q.interval c.ask_lines.result table }

pub returns-in-Err-clause-law : goal.returns-in-Err-clause-law
returns-in-Err-clause-law c =
    let q = c.args.question in
    let table : NoCut ≡ asked c.args.self.now.bytes.now q.determinant q.unit q.day q.interval = grind (arith, common_steps) in
    asked_law c.args.self.now.bytes.now q.determinant q.unit q.day q.interval NoCut table
