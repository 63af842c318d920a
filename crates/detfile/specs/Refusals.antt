-- The answers of a file's check: each case's number and values. Assumes nothing.
use Rattle.std.specs.Prelude.{ℕ, [], ◌∷◌, Ok, Err, Result, slice_index}
use Rattle.terms.specs.Told.{Told, fine, refuse}
use Rattle.figures.specs.Numbers.{numbered as field_numbered}
use Rattle.figures.specs.declared.numbers.Fault.{Fault}
use Rattle.figures.specs.declared.numbers.Fault.TheVariants as fault
use Rattle.detfile.specs.declared.refusal.FileRefusal.{FileRefusal}
use Rattle.detfile.specs.declared.refusal.FileRefusal.TheVariants.{TooLong, Names, Shape, Form, Beyond}

-- a field's answer in line n
abbrev at_line : {X : Type 0} → ℕ → Told X → Told X
at_line n (fine x) = fine x
at_line n (refuse a vs) = refuse a (n ∷ vs)

-- the one value is the line at fault
abbrev pub numbered : {X : Type 0} → FileRefusal → Told X
numbered TooLong = refuse 1 (0 ∷ [])
numbered Names = refuse 2 (1 ∷ [])
numbered (Shape n) = refuse 3 (n ∷ [])
numbered (Form n) = at_line n (field_numbered fault.Form)
numbered (Beyond n) = at_line n (field_numbered fault.Beyond)

-- the number of value lines, or the refusal
abbrev pub told : Result ℕ FileRefusal → Told ℕ
told (Ok n) = fine n
told (Err e) = numbered e

abbrev answer_number : Told ℕ → ℕ
answer_number (fine n) = 0
answer_number (refuse a vs) = a

abbrev answer_line : Told ℕ → ℕ
answer_line (fine n) = 0
answer_line (refuse a vs) = slice_index vs 0

abbrev pub number_of : FileRefusal → ℕ
number_of e = answer_number (numbered e)

abbrev pub line_of : FileRefusal → ℕ
line_of e = answer_line (numbered e)

abbrev pub fault_at : Fault → ℕ → FileRefusal
fault_at fault.Form n = Form n
fault_at fault.Beyond n = Beyond n
