use Rattle.std.proofs.Common.{◌≡◌, ℕ, ◌<◌, ◌≤◌, length, get_or}
use Rattle.terms.specs.Limits.{last_day}
use Rattle.amounts.specs.Traces.{entities}
use Rattle.amounts.specs.Triples.{none}
use Rattle.books.specs.Kept.{entry}
use Rattle.settlement.proofs.posting.before.Given as goal

abbrev pub invariant-loop-entity : goal.invariant-loop-entity
invariant-loop-entity g l = record {
  long : length l.row-items ≡ entities;
  rows : l.day ≤ last_day → (q : ℕ) → q < l.entity → get_or l.row-items q none ≡ get_or (entry (g.B.Book.kept l.book) l.day).amounts q none;
}
