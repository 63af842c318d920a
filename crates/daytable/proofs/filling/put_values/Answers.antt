use Rattle.std.proofs.Common.{◌≡◌, ◌+◌, ◌∷◌, cond, eqb, ◌&&◌, drop, get_or, Ok, sym, ap, ◌∙◌, drop-cons, add-one}
use Rattle.terms.specs.Answers.{later}
use Rattle.terms.specs.Determinants.{number_of}
use Rattle.terms.specs.declared.answer.Answer.TheVariants.{NoCut}
use Rattle.terms.specs.declared.determinant.Determinant.TheVariants.{Owner}
use Rattle.detfile.specs.Keys.{then, covers_of}
use Rattle.detfile.specs.Values.{given_by, values_fault}
use Rattle.filesource.specs.Asks.{value_says, column_says}
use Rattle.daytable.specs.Cuts.{cuts_say}
use Rattle.daytable.proofs.Spread.{field_more, sound_first}
use Rattle.daytable.proofs.filling.put_values.Goals as goal

pub loop-d-preserved : goal.loop-d-preserved
loop-d-preserved c =
    let ks = c.args.columns.now in
    let n = c.loop-d.d-index in
    let k = get_or ks n Owner in
    let key = c.args.key in
    let left : drop n ks ≡ k ∷ drop (n + 1) ks = rw add-one (drop-cons ks n Owner c.loop-d-test.true) in
    let more = field_more (drop n ks) k (drop (n + 1) ks) left c.loop-d.invariant.1.0 in
    let sound = ap (λ s. then (given_by k s) (λ _. Ok tt)) (sym c.cut_token.ensures.token) ∙ sym c.put_field.ensures.verdict ∙ c.in_ok-put_field.was in (
      c.put_field.ensures.long,
      (
        more.0,
        (
          ap (values_fault (drop (n + 1) ks)) c.cut_token.ensures.left ∙ sound_first (drop n ks) k (drop (n + 1) ks) c.loop-d.rest.now _ left sound ∙ c.loop-d.invariant.1.1.0,
          λ d u i room.
              let a = cuts_say c.loop-d.cuts d u i in
              let b = cuts_say c.put_field.new.cuts d u i in
              let said = c.put_field.ensures.says d u i room ∙ ap (λ s. later a (cond (eqb key.unit u && eqb (number_of k) d) (value_says (covers_of key.interval i) (given_by k s)) NoCut)) c.cut_token.ensures.token in
              ap (λ l. later b (cond (eqb key.unit u) (column_says (drop (n + 1) ks) d (covers_of key.interval i) l) NoCut)) c.cut_token.ensures.left
              ∙ more.1 (eqb key.unit u) d (covers_of key.interval i) c.loop-d.rest.now a b said
              ∙ c.loop-d.invariant.1.1.1 d u i room,
        ),
      ),
    )
