-- The bounds of what may be asked. Assumes nothing.
use Rattle.std.specs.Prelude.{ℕ, Bool, ◌&&◌, nat_le}

-- determinants have the numbers 1 to 13
abbrev pub last_determinant : ℕ
last_determinant = 13

-- a unit is a Resource (0 to 127), an entity (0 to 63) or 0
abbrev pub last_unit : ℕ
last_unit = 127

abbrev pub last_day : ℕ
last_day = 65535

-- a day has the intervals 1 to 96
abbrev pub last_interval : ℕ
last_interval = 96

-- the most that a stored number may lie away from zero
abbrev pub most_stored : ℕ
most_stored = 1000000000

-- a determinant, a unit, a day and an interval about which a source may know something
abbrev pub inside : ℕ → ℕ → ℕ → ℕ → Bool
inside d u y i = nat_le 1 d && (nat_le d last_determinant && (nat_le u last_unit && (nat_le y last_day && (nat_le 1 i && nat_le i last_interval))))
