use Rattle.std.proofs.Common.{◌≡◌, ℕ, true, ℤ, Some, None, sym, ap, ◌∙◌, subst}
use Rattle.terms.specs.Told.{fine}
use Rattle.terms.specs.Sources.{Table}
use Rattle.amounts.specs.Tables.{Judged}
use Rattle.intervals.specs.Courses.{course}
use Rattle.runs.specs.Turns.{is_due}
use Rattle.runs.proofs.Growing.{rows_within, charged_few, rows_balanced, grows, worked_more}
use Rattle.runs.proofs.Turning.{due_parts, no_fault, stopping_is, answering_is, worked_is}
use Rattle.runs.proofs.Wording.{stop_names, asking_front, turn_worked, turn_stops}
use Rattle.runs.proofs.run.Run.interval.Goals as goal

pub enter-requires-clause-few : goal.enter-requires-clause-few
enter-requires-clause-few g c =
    let rd : ℤ → ℕ → ℤ = g.R.Rounding.rounded c.args.self.now.rule in
    let t : Table = g.S.Source.table c.args.source.now in
    let w = c.args.self.now.work in
    let i = c.args.interval in
    let s = c.in-Ok.settled in
    let said = c.in-Ok.ensures in
    charged_few rd t w.day i (g.met.R.Rounding.near c.args.self.now.rule) s.rows s.worked.paid s.worked.charges s.worked.charged said.settled

pub enter-requires-clause-small : goal.enter-requires-clause-small
enter-requires-clause-small g c =
    let rd : ℤ → ℕ → ℤ = g.R.Rounding.rounded c.args.self.now.rule in
    let t : Table = g.S.Source.table c.args.source.now in
    let w = c.args.self.now.work in
    let i = c.args.interval in
    let s = c.in-Ok.settled in
    let said = c.in-Ok.ensures in
    rows_within rd t w.day i (g.met.R.Rounding.near c.args.self.now.rule) s.rows s.worked.paid s.worked.charges s.worked.charged said.settled

pub enter-requires-clause-balanced : goal.enter-requires-clause-balanced
enter-requires-clause-balanced g c =
    let rd : ℤ → ℕ → ℤ = g.R.Rounding.rounded c.args.self.now.rule in
    let t : Table = g.S.Source.table c.args.source.now in
    let w = c.args.self.now.work in
    let i = c.args.interval in
    let s = c.in-Ok.settled in
    let said = c.in-Ok.ensures in
    rows_balanced rd t w.day i (g.met.R.Rounding.near c.args.self.now.rule) s.rows s.worked.paid s.worked.charges s.worked.charged said.settled

pub returns-in-Ok-clause-words : goal.returns-in-Ok-clause-words
returns-in-Ok-clause-words g c =
    let t : Table = g.S.Source.table c.args.source.now in
    let w = c.args.self.now.work in
    let i = c.args.interval in
    let said = c.in-Ok.ensures in
    let due : is_due w i ≡ true = sym c.is_due.ensures ∙ c.if-not-is_due.false in
    let first = c.in-Some.ensures.cases in
    turn_worked t c.args.self.now.stopped w i c.args.warnings.now _ c.if-self.false due first.enough c.in-Ok.settled.worked
    (asking_front t w.day i (course t w.day i).rows c.in-Some.rows.now c.work_interval.new.warnings _ c.in-Ok.settled.worked.warnings None said.warnings said.counted said.words)

pub returns-in-Ok-clause-answer : goal.returns-in-Ok-clause-answer
returns-in-Ok-clause-answer g c =
    let rd : ℤ → ℕ → ℤ = g.R.Rounding.rounded c.args.self.now.rule in
    let t : Table = g.S.Source.table c.args.source.now in
    let w = c.args.self.now.work in
    let i = c.args.interval in
    let s = c.in-Ok.settled in
    let said = c.in-Ok.ensures in
    let due : is_due w i ≡ true = sym c.is_due.ensures ∙ c.if-not-is_due.false in
    let first = c.in-Some.ensures.cases in
    ap fine (worked_is rd t w.day i s.rows s.worked said.settled said.counted) ∙ answering_is t c.args.self.now.stopped w i c.args.warnings.now c.if-self.false due first.enough rd (no_fault w.day i (course t w.day i) said.stop)

pub returns-in-Ok-clause-work : goal.returns-in-Ok-clause-work
returns-in-Ok-clause-work g c =
    let rd : ℤ → ℕ → ℤ = g.R.Rounding.rounded c.args.self.now.rule in
    let t : Table = g.S.Source.table c.args.source.now in
    let w = c.args.self.now.work in
    let i = c.args.interval in
    let s = c.in-Ok.settled in
    let said = c.in-Ok.ensures in
    let due : is_due w i ≡ true = sym c.is_due.ensures ∙ c.if-not-is_due.false in
    let after = c.enter.ensures in
    grows rd t w c.enter.new.self i s.rows s.worked.paid s.worked.charges s.worked.charged (due_parts w i due).1 said.settled after.day after.intervals after.charged after.totals

pub returns-in-Ok-clause-law : goal.returns-in-Ok-clause-law
returns-in-Ok-clause-law g c =
    let rd : ℤ → ℕ → ℤ = g.R.Rounding.rounded c.args.self.now.rule in
    let t : Table = g.S.Source.table c.args.source.now in
    let w = c.args.self.now.work in
    let i = c.args.interval in
    let s = c.in-Ok.settled in
    let said = c.in-Ok.ensures in
    let due : is_due w i ≡ true = sym c.is_due.ensures ∙ c.if-not-is_due.false in
    let d = due_parts w i due in
    let after = c.enter.ensures in
    let grown = grows rd t w c.enter.new.self i s.rows s.worked.paid s.worked.charges s.worked.charged d.1 said.settled after.day after.intervals after.charged after.totals in
    λ y ts by. worked_more y rd t ts w c.enter.new.self (subst (λ k. Judged t w.day k 64 128) d.1 said.settled.judged) (subst (λ k. (course t w.day k).fault ≡ None) d.1 (no_fault w.day i (course t w.day i) said.stop)) grown by

pub returns-in-Err-clause-words : goal.returns-in-Err-clause-words
returns-in-Err-clause-words g c =
    let t : Table = g.S.Source.table c.args.source.now in
    let w = c.args.self.now.work in
    let i = c.args.interval in
    let said = c.in-Err.ensures in
    let due : is_due w i ≡ true = sym c.is_due.ensures ∙ c.if-not-is_due.false in
    let first = c.in-Some.ensures.cases in
    let names = stop_names w.day i (course t w.day i) c.in-Err.stop said.stop in
    rw c.halt.ensures.refusal (
    turn_stops t c.args.self.now.stopped w i c.args.warnings.now _ c.if-self.false due first.enough c.in-Err.stop names.1
    (asking_front t w.day i (course t w.day i).rows c.in-Some.rows.now c.work_interval.new.warnings _ c.in-Err.stop.warnings (Some c.in-Err.stop.fault) said.warnings names.0 said.words))

pub returns-in-Err-clause-stopped : goal.returns-in-Err-clause-stopped
returns-in-Err-clause-stopped g c =
    let t : Table = g.S.Source.table c.args.source.now in
    let w = c.args.self.now.work in
    let i = c.args.interval in
    let said = c.in-Err.ensures in
    let due : is_due w i ≡ true = sym c.is_due.ensures ∙ c.if-not-is_due.false in
    c.halt.ensures.stopped ∙ stopping_is t c.args.self.now.stopped w i c.args.warnings.now c.if-self.false due c.in-Some.ensures.cases.enough c.in-Err.stop said.stop
