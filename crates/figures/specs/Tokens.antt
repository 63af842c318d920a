-- What a field says. Assumes nothing.
use Rattle.std.specs.Prelude.{ℕ, cond, List, [], ◌∷◌, length, ◌==◌, slice_index}
use Rattle.figures.specs.declared.marks.Mark.{Mark}
use Rattle.figures.specs.declared.marks.Mark.TheVariants.{Star, Dash, Point, Digit, Other}
use Rattle.figures.specs.declared.tokens.Token.{Token}
use Rattle.figures.specs.declared.tokens.Token.TheVariants.{Nothing, Every, Number}
use Rattle.figures.specs.Marks.{mark_of}

-- a token with the bytes of its part of the line
pub data Seen : Type 0 where
  nothing : Seen
  every : Seen
  number : List ℕ → Seen

abbrev pub seen : Token → Seen
seen Nothing = nothing
seen Every = every
seen (Number part) = number part.now

abbrev pub single : Mark → List ℕ → Seen
single Star bs = every
single Dash bs = nothing
single Point bs = number bs
single (Digit d) bs = number bs
single Other bs = number bs

-- a dash alone gives nothing, a star alone stands for every interval, and any other field is the part that should be a number
abbrev pub token_of : List ℕ → Seen
token_of bs = cond (length bs == 1) (single (mark_of (slice_index bs 0)) bs) (number bs)

-- the bytes of the field that a token was made of
abbrev pub spelt : Seen → List ℕ
spelt nothing = 45 ∷ []
spelt every = 42 ∷ []
spelt (number part) = part
