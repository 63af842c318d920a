use Rattle.settlement.proofs.Posted.{postings_begin}
use Rattle.settlement.proofs.Worded.{posts_file}
use Rattle.settlement.proofs.laws.postings_law.Goals as goal

pub returns : goal.returns
returns c = record { lists = postings_begin; file = posts_file }
