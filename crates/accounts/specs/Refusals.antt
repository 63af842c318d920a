-- The answers of a posting: each refusal's number and values. Assumes nothing.
use Rattle.std.specs.Prelude.{ℕ, [], Ok, Err, Result}
use Rattle.terms.specs.Told.{Told, fine, refuse}
use Rattle.accounts.specs.declared.refusal.PostRefusal.{PostRefusal}
use Rattle.accounts.specs.declared.refusal.PostRefusal.TheVariants.{NotReserved, OtherDay, TooShort, FewRows}

abbrev pub numbered : {X : Type 0} → PostRefusal → Told X
numbered NotReserved = refuse 17 []
numbered OtherDay = refuse 18 []
numbered TooShort = refuse 19 []
numbered FewRows = refuse 20 []

abbrev pub told : {X : Type 0} → Result X PostRefusal → Told X
told (Ok x) = fine x
told (Err e) = numbered e

abbrev answer_number : Told ℕ → ℕ
answer_number (fine x) = 0
answer_number (refuse a vs) = a

abbrev pub number_of : PostRefusal → ℕ
number_of e = answer_number (numbered e)
