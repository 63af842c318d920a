-- What one byte stands for. Assumes nothing.
use Rattle.std.specs.Prelude.{ℕ, ◌-◌, ◌<◌, cond, ◌&&◌, Some, None, Option, ◌==◌, nat_le}
use Rattle.figures.specs.declared.marks.Mark.{Mark}
use Rattle.figures.specs.declared.marks.Mark.TheVariants.{Star, Dash, Point, Digit, Other}

-- 42 is the star, 45 the dash, 46 the point, 48 to 57 are the digits
abbrev pub mark_of : ℕ → Mark
mark_of b = cond (b == 42) Star (cond (b == 45) Dash (cond (b == 46) Point (cond (nat_le 48 b && nat_le b 57) (Digit (b - 48)) Other)))

abbrev pub digit_of : Mark → Option ℕ
digit_of Star = None
digit_of Dash = None
digit_of Point = None
digit_of (Digit d) = Some d
digit_of Other = None

-- a digit is below ten
abbrev pub Small : Mark → Type 0
Small Star = Unit {0}
Small Dash = Unit {0}
Small Point = Unit {0}
Small (Digit d) = d < 10
Small Other = Unit {0}
