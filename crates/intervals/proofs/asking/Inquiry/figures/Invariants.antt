use Rattle.std.proofs.Common.{◌≡◌, length, drop}
use Rattle.intervals.specs.Courses.{walk, of_resource, resource, after}
use Rattle.intervals.specs.Askings.{Kept}
use Rattle.intervals.proofs.asking.Inquiry.figures.Given as goal

abbrev pub invariant-loop-determinant : goal.invariant-loop-determinant
invariant-loop-determinant g l = record {
  same : l.notes.rows.ghost_name ≡ l.initial.notes.rows.ghost_name;
  course : after l.notes.rows.now l.notes.count (walk (g.S.Source.table l.self.source.now) l.self.slot.day l.self.slot.interval l.unit (drop l.determinant-index of_resource)) ≡ after l.initial.notes.rows.now l.initial.notes.count (resource (g.S.Source.table l.self.source.now) l.self.slot.day l.self.slot.interval l.unit);
  kept : Kept (g.S.Source.table l.self.source.now) l.self.slot.day l.self.slot.interval l.unit l.determinant-index l.figures.places;
  long : length l.figures.places ≡ 13;
}
