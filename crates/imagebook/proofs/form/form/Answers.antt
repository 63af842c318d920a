use Rattle.std.proofs.Common.{◌≡◌, ◌/◌, length, Ok, arith, sym, ap, ◌∙◌}
use Rattle.imagebook.specs.Forms.{pieces, misformed, formed_by}
use Rattle.imagebook.proofs.Forming.{form_ragged, form_many, form_by}
use Rattle.imagebook.proofs.form.form.Goals as goal

pub returns-then-not-is_empty : goal.returns-then-not-is_empty
returns-then-not-is_empty c =
    let n = c.as_chunks.ensures.back_len in
    form_ragged c.args.bytes.now (grind arith)

pub returns-then-places-gt-MOST_PLACES : goal.returns-then-places-gt-MOST_PLACES
returns-then-places-gt-MOST_PLACES c =
    let n = c.as_chunks.ensures.back_len in
    let m = c.as_chunks.ensures.front_len in
    form_many c.args.bytes.now (grind arith) (grind arith)

pub returns-in-Some : goal.returns-in-Some
returns-in-Some c =
    let n = c.as_chunks.ensures.back_len in
    let m = c.as_chunks.ensures.front_len in
    let b = form_by c.args.bytes.now (grind arith) (grind arith) in
    let e : misformed 0 (pieces c.args.bytes.now) ≡ c.misformed.result = ap (misformed 0) (sym c.as_chunks.ensures.front) ∙ sym c.misformed.ensures in
    ap (λ o. formed_by o (length c.args.bytes.now / 1544)) (sym (e ∙ c.in-Some.is)) ∙ b

pub returns-in-None : goal.returns-in-None
returns-in-None c =
    let n = c.as_chunks.ensures.back_len in
    let m = c.as_chunks.ensures.front_len in
    let b = form_by c.args.bytes.now (grind arith) (grind arith) in
    let e : misformed 0 (pieces c.args.bytes.now) ≡ c.misformed.result = ap (misformed 0) (sym c.as_chunks.ensures.front) ∙ sym c.misformed.ensures in
    ap Ok m ∙ ap (λ o. formed_by o (length c.args.bytes.now / 1544)) (sym (e ∙ c.in-None.is)) ∙ b
