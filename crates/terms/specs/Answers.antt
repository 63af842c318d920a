-- What a source may answer. Assumes nothing.
use Rattle.std.specs.Prelude.{◌≤◌, unsigned_abs}
use Rattle.terms.specs.declared.answer.Answer.{Answer}
use Rattle.terms.specs.declared.answer.Answer.TheVariants.{NoCut, Null, Figure}
use Rattle.terms.specs.Limits.{most_stored}

-- a number lies within the stored range
abbrev pub Sized : Answer → Type 0
Sized NoCut = Unit {0}
Sized Null = Unit {0}
Sized (Figure z) = unsigned_abs z ≤ most_stored

-- an answer after one more line or record has spoken: a number it gives decides, and a number for another interval shows only that
-- there is a cut
abbrev pub later : Answer → Answer → Answer
later a NoCut = a
later a (Figure z) = Figure z
later NoCut Null = Null
later Null Null = Null
later (Figure z) Null = Figure z
