-- The lines that an iterator has left. Assumes nothing.
use Rattle.std.specs.Prelude.{List}
use Rattle.detfile.specs.declared.lines.Line.{Line}
use Rattle.detfile.specs.declared.lines.Line.TheVariants.{Ended, Unended}
use Rattle.detfile.specs.declared.lines.Lines.{Lines}
use Rattle.detfile.specs.Lines.{ended, unended, lines}
use Rattle.detfile.specs.Lines as file

-- a line with its bytes
abbrev pub file_line : Line → file.Line
file_line (Ended l) = ended l.now
file_line (Unended l) = unended l.now

abbrev pub lines_left : Lines → List file.Line
lines_left s = lines s.rest.now
