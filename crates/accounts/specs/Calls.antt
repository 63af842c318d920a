-- Whole lists of calls on a book, over the definitions that each call is held to; the newest call first. Assumes nothing.
use Rattle.std.specs.Prelude.{◌≡◌, ℕ, ◌*◌, ◌<◌, false, List, [], ◌∷◌, take}
use Rattle.terms.specs.Limits.{last_interval}
use Rattle.amounts.specs.declared.row.Amounts.{Amounts}
use Rattle.amounts.specs.Traces.{entities}
use Rattle.runs.specs.Calls.{RunCalls, trace_of}
use Rattle.runs.specs.Sheets.{said_of}
use Rattle.runs.specs.Example.{example_run, example_totals}
use Rattle.books.specs.Kept.{Kept}
use Rattle.books.specs.Calls.{reserving, lifting}
use Rattle.books.specs.Lists.{new_kept}
use Rattle.books.specs.Refusals.{told}
use Rattle.accounts.specs.Refusals.{told as post_told}
use Rattle.accounts.specs.Slips.{given}
use Rattle.accounts.specs.Postings.{Posted, posting}
use Rattle.accounts.specs.Histories.{Event, History, reserves, withdraws, posts, run, last, answered, issued}

-- a day to be reserved; a slip's day, withdrawn; a slip's day, the run that the sheet is closed from, and the caller's bill rows
pub data Call : Type 0 where
  asks : ℕ → Call
  returns : ℕ → Call
  hands : ℕ → RunCalls → List Amounts → Call

-- the posting of the sheet that a run ends in
abbrev pub handed : Kept → ℕ → RunCalls → List Amounts → Posted
handed k d r bills = posting k d (said_of (trace_of r)) bills

abbrev pub event : Kept → Call → Event
event k (asks d) = reserves d (given d (reserving k d).answer)
event k (returns d) = withdraws d (told (lifting k d false).answer)
event k (hands d r bills) = posts d (trace_of r) (take entities (handed k d r bills).bills) (post_told (handed k d r bills).answer)

abbrev pub after : Kept → Call → Kept
after k (asks d) = (reserving k d).after
after k (returns d) = (lifting k d false).after
after k (hands d r bills) = (handed k d r bills).after

-- what is kept after all the calls on a book that kept k
unfoldable pub kept_after : Kept → List Call → Kept
kept_after k [] = k
kept_after k (c ∷ cs) = after (kept_after k cs) c

-- and what was called, with each answer
unfoldable pub history_of : Kept → List Call → History
history_of k [] = []
history_of k (c ∷ cs) = event (kept_after k cs) c ∷ history_of k cs

-- the run of the day that is written out, posted to a new book of so many places
abbrev pub first_posting : ℕ → List Amounts → List Call
first_posting y bills = hands y (example_run y) bills ∷ asks y ∷ []

-- it is accepted, and bills the day's amounts
pub record FirstBills (places y : ℕ) (bills : List Amounts) : Type 0 where
  pub posted : last (history_of (new_kept places) (first_posting y bills)) y ≡ run (trace_of (example_run y))
  pub answered_is : answered (history_of (new_kept places) (first_posting y bills)) y ≡ 2 * last_interval
  pub issued_is : (q : ℕ) → q < entities → issued (history_of (new_kept places) (first_posting y bills)) y q ≡ example_totals q
