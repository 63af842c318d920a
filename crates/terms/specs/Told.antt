-- How a call ended, apart from the names that the code has for it. Assumes nothing.
use Rattle.std.specs.Prelude.{ℕ, List}

-- accepted with a value, or refused by an answer number and the values that go with it
pub data Told (X : Type 0) : Type 0 where
  fine : X → Told X
  refuse : ℕ → List ℕ → Told X
