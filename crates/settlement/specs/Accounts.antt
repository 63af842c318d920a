-- The law of accounts on the bytes of a book. Assumes nothing.
use Rattle.std.specs.Prelude.{◌≡◌, ℕ, ◌≤◌, List, ◌++◌, IfOk, Result}
use Rattle.books.specs.Lists.{new_kept}
use Rattle.imagebook.specs.Images.{opened, image_of}
use Rattle.accounts.specs.Histories.{History, Accounts, last}
use Rattle.accounts.specs.Bills.{BilledBetween}
use Rattle.settlement.specs.declared.dayfile.DayFile.{DayFile}
use Rattle.settlement.specs.declared.bills.Bills.{Bills}
use Rattle.settlement.specs.declared.refusal.Unposted.{Unposted}
use Rattle.settlement.specs.Postings.{run_of}

-- the most places that a book has
abbrev pub most_places : ℕ
most_places = 32

-- the bytes of a new book
abbrev pub new_image : ℕ → List ℕ
new_image places = image_of (new_kept places)

-- THE LAW OF ACCOUNTS, between what was called on a book and what its bytes mean
abbrev pub AccountsOf : History → List ℕ → Type 0
AccountsOf h book = Accounts h (opened book)

-- it goes on from bytes to those after some calls, whatever was called before
abbrev pub GoesOn : History → List ℕ → List ℕ → Type 0
GoesOn calls before after = (h : History) → AccountsOf h before → AccountsOf (calls ++ h) after

-- and it holds after these calls alone where the bytes before them are a new book's
abbrev pub Begins : History → List ℕ → List ℕ → Type 0
Begins calls before after = (places : ℕ) → places ≤ most_places → before ≡ new_image places → AccountsOf calls after

-- what a file bills on these bytes, if anything, is the difference of its run and the one posted before, whatever was called before
abbrev pub BillsDifference : DayFile → List ℕ → Result Bills Unposted → Type 0
BillsDifference f book answer = (h : History) → AccountsOf h book → IfOk answer (λ b. BilledBetween (last h f.day) (run_of f) b.rows)
