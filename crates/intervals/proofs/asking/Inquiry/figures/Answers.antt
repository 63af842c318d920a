use Rattle.std.proofs.Common.{◌≡◌, ◌+◌, set, Some, sym, refl, ap, ◌∙◌, subst, arith, rules, w64, SFits}
use Rattle.std.proofs.lemmas.Int.{to_z-of_z}
use Rattle.std.proofs.lemmas.List.{length-set}
use Rattle.terms.specs.Sources.{Table}
use Rattle.intervals.specs.Courses.{after, of_resource}
use Rattle.intervals.specs.Askings.{held_as, Kept}
use Rattle.intervals.proofs.Walked.{walk_whole, walk_ends, kept_more, place_is}
use Rattle.intervals.proofs.Rowed.{room}
use Rattle.intervals.proofs.Resourced.{here, goes_on, passes, stops, passed_at}
use Rattle.intervals.proofs.asking.Inquiry.figures.Goals.{in-Taken, in-Warned}
use Rattle.intervals.proofs.asking.Inquiry.figures.Goals as goal

pub loop-determinant-init : goal.loop-determinant-init
loop-determinant-init g c = record {
  same = refl;
  course = ap (after _ _) (sym (walk_whole _ _ _ _));
  kept = λ k lt. absurd (omega arith);
  long = refl;
}

pub judge_noting-requires : goal.judge_noting-requires
unfolding of_resource
judge_noting-requires g c =
    let t : Table = g.S.Source.table c.args.self.now.source.now in
    let slot = c.args.self.now.slot in
    let now = c.loop-determinant in
    room t slot.day slot.interval c.args.unit now.notes.rows.now now.notes.count now.determinant-index c.loop-determinant-test.true _ _ now.invariant.course c.requires

pub returns-in-Skipped-clause-course : goal.returns-in-Skipped-clause-course
unfolding of_resource
returns-in-Skipped-clause-course g c =
    let t : Table = g.S.Source.table c.args.self.now.source.now in
    let slot = c.args.self.now.slot in
    let now = c.loop-determinant in
    let said = c.judge_noting.ensures in
    passes t slot.day slot.interval c.args.unit now.notes.rows.now now.notes.count now.determinant-index c.loop-determinant-test.true _ refl c.judge_noting.result said.judgement _ _ said.count said.rows c.in-Skipped.is
    ∙ now.invariant.course

pub returns-in-Skipped-clause-reads : goal.returns-in-Skipped-clause-reads
unfolding of_resource
returns-in-Skipped-clause-reads g c =
    let t : Table = g.S.Source.table c.args.self.now.source.now in
    let slot = c.args.self.now.slot in
    let now = c.loop-determinant in
    passed_at t slot.day slot.interval c.args.unit now.notes.rows.now now.notes.count now.determinant-index c.loop-determinant-test.true _ refl c.judge_noting.result c.judge_noting.ensures.judgement now.figures.places now.invariant.kept c.in-Skipped.is

pub returns-in-Stopped-clause-course : goal.returns-in-Stopped-clause-course
unfolding of_resource
returns-in-Stopped-clause-course g c =
    let t : Table = g.S.Source.table c.args.self.now.source.now in
    let slot = c.args.self.now.slot in
    let now = c.loop-determinant in
    let said = c.judge_noting.ensures in
    rw c.new.ensures
    (stops t slot.day slot.interval c.args.unit now.notes.rows.now now.notes.count now.determinant-index c.loop-determinant-test.true _ refl c.judge_noting.result said.judgement _ _ said.count said.rows c.in-Stopped.cause c.in-Stopped.is
    ∙ now.invariant.course)

pub loop-determinant-preserved : goal.loop-determinant-preserved
unfolding of_resource
loop-determinant-preserved g c =
    let t : Table = g.S.Source.table c.args.self.now.source.now in
    let slot = c.args.self.now.slot in
    let now = c.loop-determinant in
    let k = now.determinant-index in
    let lt = c.loop-determinant-test.true in
    let said = c.judge_noting.ensures in
    let held : c.judge_noting.result ≡ held_as c.match-judge_noting.figure = elim c.match-judge_noting.branch [
      | in-Taken w ↦ (let fits : SFits w64 w.in-Taken.figure = search rules in w.in-Taken.is ∙ ap held_as (sym (w.figure-is ∙ ap Some (to_z-of_z w64 w.in-Taken.figure fits))))
      | in-Warned w ↦ w.in-Warned.is ∙ ap held_as (sym w.figure-is)
    ] in
    let put : c.put.new.self.places ≡ set now.figures.places k c.match-judge_noting.figure = c.put.ensures ∙ ap (λ j. set now.figures.places j c.match-judge_noting.figure) (place_is k lt) in
    let put_here = here t slot.day slot.interval c.args.unit now.notes.rows.now now.notes.count k lt _ refl c.judge_noting.result said.judgement in
    record {
      same = said.same ∙ now.invariant.same;
      course = goes_on t slot.day slot.interval c.args.unit now.notes.rows.now now.notes.count k lt _ refl c.judge_noting.result said.judgement _ _ said.count said.rows c.match-judge_noting.figure held ∙ now.invariant.course;
      kept = subst (λ xs. Kept t slot.day slot.interval c.args.unit (k + 1) xs) (sym put) (kept_more t slot.day slot.interval c.args.unit now.notes.rows.now now.notes.count k lt now.figures.places c.match-judge_noting.figure now.invariant.long (put_here ∙ held) now.invariant.kept);
      long = rw put (length-set now.figures.places k c.match-judge_noting.figure ∙ now.invariant.long);
    }

pub returns-clause-course : goal.returns-clause-course
returns-clause-course g c =
    let t : Table = g.S.Source.table c.args.self.now.source.now in
    let slot = c.args.self.now.slot in
    let now = c.loop-determinant in
    sym (walk_ends t slot.day slot.interval c.args.unit now.notes.rows.now now.notes.count now.determinant-index (omega arith)) ∙ now.invariant.course
