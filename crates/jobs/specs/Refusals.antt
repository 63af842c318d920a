-- The answers of a job: each refusal's number and values. Assumes nothing.
use Rattle.std.specs.Prelude.{ℕ, Ok, Err, Result}
use Rattle.terms.specs.Told.{Told, fine, refuse}
use Rattle.runs.specs.Refusals.{numbered as interval_numbered}
use Rattle.books.specs.Refusals.{numbered as book_numbered}
use Rattle.accounts.specs.Refusals.{numbered as post_numbered}
use Rattle.jobs.specs.declared.refusal.JobRefusal.{JobRefusal}
use Rattle.jobs.specs.declared.refusal.JobRefusal.TheVariants.{Reservation, Interval, Posting}

abbrev pub numbered : {X : Type 0} → JobRefusal → Told X
numbered (Reservation e) = book_numbered e
numbered (Interval e) = interval_numbered e
numbered (Posting e) = post_numbered e

abbrev pub told : {X : Type 0} → Result X JobRefusal → Told X
told (Ok x) = fine x
told (Err e) = numbered e

abbrev answer_number : Told ℕ → ℕ
answer_number (fine x) = 0
answer_number (refuse a vs) = a

abbrev pub number_of : JobRefusal → ℕ
number_of e = answer_number (numbered e)
