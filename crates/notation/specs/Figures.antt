-- How a stored number is written. Assumes nothing.
use Rattle.std.specs.Prelude.{ℕ, zero, suc, ◌/◌, ◌%◌, ◌^◌, List, [], ◌++◌, ℤ, pos, negsuc, codes, decimal}

-- the last k digits of n
abbrev pub last_digits : ℕ → ℕ → List ℕ
last_digits zero n = []
last_digits (suc zero) n = decimal (n % 10)
last_digits (suc (suc k)) n = decimal (n / 10 ^ suc k % 10) ++ last_digits (suc k) n

-- n with a point before its last k digits, and none where k is 0
abbrev pub pointed : ℕ → ℕ → List ℕ
pointed zero n = decimal n
pointed (suc k) n = decimal (n / 10 ^ suc k) ++ (codes "." ++ last_digits (suc k) n)

-- a stored number with k decimals: a minus where it is below zero, and all k decimals
abbrev pub figure_of : ℕ → ℤ → List ℕ
figure_of k (pos n) = pointed k n
figure_of k (negsuc n) = codes "-" ++ pointed k (suc n)
