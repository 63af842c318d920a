use Rattle.std.proofs.Common.{◌≡◌, rules}
use Rattle.std.specs.Option.{option_map}
use Rattle.intervals.specs.Askings.{asked_of}
use Rattle.intervals.proofs.Resourced.{asks}
use Rattle.intervals.proofs.asking.Inquiry.resource.Goals as goal

pub returns-clause-asks : goal.returns-clause-asks
returns-clause-asks g c =
    let e : c.map.result ≡ option_map (λ f. asked_of f.places) c.in_ok-figures.figures = search rules in
    rw e (asks _ _ _ _ _ c.in_ok-figures.ensures.reads)
