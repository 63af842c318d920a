-- Lists of postings of files, one after the other on one book; the newest first. Assumes nothing.
use Rattle.std.specs.Prelude.{ℕ, List, [], ◌∷◌, ◌++◌}
use Rattle.intervals.specs.declared.warning.Warning.{Warning}
use Rattle.accounts.specs.Histories.{History}
use Rattle.settlement.specs.declared.dayfile.DayFile.{DayFile}
use Rattle.settlement.specs.Postings.{posted}

-- what one call is handed: a file's bytes with its day and the choice of the fill, and the list of warnings that is lent
pub record Filing : Type 0 where
  pub file : DayFile
  pub warnings : List Warning

-- the book's bytes after all the postings
unfoldable pub bytes_after : List ℕ → List Filing → List ℕ
bytes_after book [] = book
bytes_after book (p ∷ ps) = (posted p.file p.warnings (bytes_after book ps)).book

-- and all that they called on the book
unfoldable pub calls_of : List ℕ → List Filing → History
calls_of book [] = []
calls_of book (p ∷ ps) = (posted p.file p.warnings (bytes_after book ps)).calls ++ calls_of book ps
