-- Zero for null. Assumes nothing.
use Rattle.std.specs.Prelude.{ℕ, cond, ◌&&◌, pos, nat_le}
use Rattle.terms.specs.declared.answer.Answer.{Answer}
use Rattle.terms.specs.declared.answer.Answer.TheVariants.{NoCut, Null, Figure}

abbrev pub zeroed : Answer → Answer
zeroed NoCut = NoCut
zeroed Null = Figure (pos 0)
zeroed (Figure z) = Figure z

-- determinants 2, 3 and 4 are VSSVARIOL, URLLAG and URLLEAD
abbrev pub filled : ℕ → Answer → Answer
filled d a = cond (nat_le 2 d && nat_le d 4) (zeroed a) a
