use Rattle.std.proofs.Common.{◌≡◌, length, ap, ◌∙◌, rules}
use Rattle.std.proofs.lemmas.List.{with_items_is}
use Rattle.std.specs.Vec.{with_items}
use Rattle.daytable.specs.Cuts.{tabled}
use Rattle.daytable.proofs.Filled.{figures_within}
use Rattle.daytable.proofs.table.DayTable.build.Goals as goal

pub invariant_of-result : goal.invariant_of-result
invariant_of-result c =
    let v = c.args.room.cuts in
    let cs = c.fill-verdict.new.cuts in
    let long : length cs ≡ v.len = search rules in
    let held = with_items_is v cs long in
    record {
      long = ap length held ∙ c.fill-verdict.ensures.long;
      sized = figures_within c.args.bytes.now c.args.day (with_items v cs).items (λ d u y i. ap (λ l. tabled c.args.day l d u y i) held ∙ c.fill-verdict.ensures.says d u y i);
    }
