use Rattle.std.proofs.Common.{◌<◌, arith, refl, subst}
use Rattle.std.specs.Prelude.{slice_index}
use Rattle.imagebook.specs.Forms.{all_formed}
use Rattle.imagebook.proofs.bytes.Image.aside.Goals as goal

pub invariant_of-result : goal.invariant_of-result
unfolding all_formed
invariant_of-result c = record {
  few = omega arith;
  within = omega arith;
  small = λ i. subst (λ bs. slice_index bs i < 256) c.deref.ensures.value (c.are_bytes.ensures i);
  formed = refl;
}
