use Rattle.accounts.proofs.Effects.{law_new}
use Rattle.accounts.proofs.Calling.{calls_law}
use Rattle.accounts.proofs.Exampled.{first_bills}
use Rattle.accounts.proofs.laws.accounts_law.Goals as goal

pub returns : goal.returns
returns c = record { new_book = law_new; all_calls = calls_law; example = first_bills }
