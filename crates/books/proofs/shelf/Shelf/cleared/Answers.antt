use Rattle.std.proofs.Common.{length, refl, arith}
use Rattle.books.specs.Tests.{all_sound}
use Rattle.books.proofs.Moving.{free_at}
use Rattle.books.proofs.shelf.Shelf.cleared.Goals as goal

pub invariant_of-result : goal.invariant_of-result
unfolding all_sound
invariant_of-result g c = record {
  within = omega arith;
  free = λ i l. rw c.clear.ensures.slots (free_at (length (g.S.Store.slots c.args.store)) i);
  rising = refl;
  each = refl;
}
