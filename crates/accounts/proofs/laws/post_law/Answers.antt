use Rattle.accounts.proofs.Wording.{posts}
use Rattle.accounts.proofs.laws.post_law.Goals as goal

pub returns : goal.returns
returns c = posts
