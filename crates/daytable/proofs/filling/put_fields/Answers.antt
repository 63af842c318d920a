use Rattle.std.proofs.Common.{sym, ◌∙◌}
use Rattle.figures.specs.Tokens.{token_of}
use Rattle.daytable.proofs.Bounded.{key_in}
use Rattle.daytable.proofs.filling.put_fields.Goals as goal

pub put_values-requires-clause-unit : goal.put_values-requires-clause-unit
put_values-requires-clause-unit c =
    let f = c.cut-fields.result in
    (key_in f.day.now f.unit.now (token_of f.interval.now) c.in_ok-key.key (sym c.try_from.ensures ∙ c.in_ok-key.was)).0

pub put_values-requires-clause-interval : goal.put_values-requires-clause-interval
put_values-requires-clause-interval c =
    let f = c.cut-fields.result in
    (key_in f.day.now f.unit.now (token_of f.interval.now) c.in_ok-key.key (sym c.try_from.ensures ∙ c.in_ok-key.was)).1
