use Rattle.image.proofs.Back.{written}
use Rattle.image.proofs.Exact.{read}
use Rattle.image.proofs.laws.place_law.Goals as goal

pub returns : goal.returns
returns c = record { written = written; read = read }
