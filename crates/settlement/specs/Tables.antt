-- What a determinant file answers. Assumes nothing.
use Rattle.std.specs.Prelude.{Bool, true, false}
use Rattle.terms.specs.Sources.{Table}
use Rattle.sources.specs.Fills.{filled}
use Rattle.filesource.specs.Asks.{asked}
use Rattle.settlement.specs.declared.dayfile.DayFile.{DayFile}

-- with zero for null at determinants 2, 3 and 4, or as it stands
abbrev pub chosen : Bool → Table → Table
chosen true t = λ d u y i. filled d (t d u y i)
chosen false t = t

-- THE TABLE OF A FILE: what its bytes answer, filled where that is asked for
abbrev pub table_of : DayFile → Table
table_of f = chosen f.fill (asked f.bytes.now)
