use Rattle.std.proofs.Common.{◌≡◌, ◌<◌, Ok, arith, sym, ap, ◌∙◌, subst}
use Rattle.std.specs.Prelude.{slice_index}
use Rattle.std.specs.Simd.{first_chunks}
use Rattle.imagebook.specs.Forms.{all_formed, form_of}
use Rattle.imagebook.proofs.Meaning.{in_form, all_formed_by}
use Rattle.imagebook.proofs.bytes.Image.read.Goals as goal

pub invariant_of-result : goal.invariant_of-result
invariant_of-result c =
    let bs = c.args.bytes.items in
    let e : form_of bs ≡ Ok c.in-Ok.count = sym (c.form.ensures ∙ ap form_of c.deref-2.ensures.value) ∙ c.in-Ok.is in
    let f = in_form bs c.in-Ok.count e in
    let n = f.count in
    record {
      few = f.few;
      within = omega (arith, n);
      small = λ i. subst (λ z. slice_index z i < 256) c.deref.ensures.value (c.are_bytes.ensures i);
      formed = ap (λ k. all_formed (first_chunks 1544 k bs)) f.count ∙ all_formed_by 0 _ f.formed;
    }
