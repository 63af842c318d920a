use Rattle.std.proofs.Common.{◌≡◌, cond, Some, Ok, sym, ap, ◌∙◌, w32, w64, FitsSigned, rules}
use Rattle.std.proofs.lemmas.Int.{to_z-of_z}
use Rattle.terms.specs.declared.answer.Answer.{Answer}
use Rattle.terms.specs.declared.answer.Answer.TheVariants.{Null, Figure}
use Rattle.terms.specs.Determinants.{number_of}
use Rattle.terms.specs.Answers.{later}
use Rattle.terms.proofs.Tabling.{tabled}
use Rattle.figures.specs.Tokens.{seen}
use Rattle.detfile.specs.Keys.{covers_of}
use Rattle.detfile.specs.Values.{given_by}
use Rattle.filesource.specs.Asks.{value_says}
use Rattle.daytable.specs.Cuts.{place}
use Rattle.daytable.proofs.Bounded.{given_small}
use Rattle.daytable.proofs.Placing.{put_says}
use Rattle.daytable.proofs.filling.put_field.Goals as goal

turned : (x a s t : Answer) → x ≡ later a s → s ≡ t → x ≡ later a t
turned x a s t e f = e ∙ ap (later a) f

pub narrowed-requires : goal.narrowed-requires
narrowed-requires c =
    let z = c.in-Some.number in
    let given = sym c.given_value.ensures ∙ c.in_ok-number.was ∙ ap Ok c.in-Some.is in
    let fits : FitsSigned w64 z = search rules in
    rw (to_z-of_z w64 z fits) (given_small c.args.determinant (seen c.args.token) z given)

pub returns-in-Some-clause-says : goal.returns-in-Some-clause-says
returns-in-Some-clause-says c =
    let k = c.args.determinant in
    let key = c.args.key in
    let z = c.in-Some.number in
    let given : given_by k (seen c.args.token) ≡ Ok (Some z) = sym c.given_value.ensures ∙ c.in_ok-number.was ∙ ap Ok c.in-Some.is in
    let fits : FitsSigned w64 z = search rules in
    let narrow : FitsSigned w32 c.narrowed.result = search rules in
    let number = to_z-of_z w32 c.narrowed.result narrow ∙ c.narrowed.ensures ∙ to_z-of_z w64 z fits in
    let at : c.place_of-at.result ≡ place (number_of k) key.unit = c.place_of-at.ensures.value ∙ ap (λ n. place n key.unit) c.into.ensures in
    let row = tabled k in
    put_says c.args.cuts.now (number_of k) key.unit c.place_of-at.result c.put.new.self (λ i. value_says (covers_of key.interval i) (given_by k (seen c.args.token))) c.requires.long row.first row.last c.requires.unit at
    (λ i low high. turned _ _ _ _ (c.put.ensures i low high) (ap (λ x. cond (covers_of key.interval i) (Figure x) Null) number ∙ sym (ap (value_says (covers_of key.interval i)) given)))
