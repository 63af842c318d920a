-- What the marks of a day in a book say. Assumes nothing.
use Rattle.std.specs.Prelude.{ℕ, Bool, true, false, List, codes}

abbrev pub state_of : Bool → Bool → List ℕ
state_of true true = codes "reserved and billed"
state_of true false = codes "reserved"
state_of false true = codes "billed"
state_of false false = codes "not held"
