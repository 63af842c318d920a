use Rattle.rounding.proofs.Ties.{away_takes, even_takes}
use Rattle.rounding.proofs.laws.tie_law.Goals as goal

pub returns : goal.returns
returns c = record { away = away_takes; even = even_takes }
