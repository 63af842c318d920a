-- What the check of a file finds. Assumes nothing.
use Rattle.std.specs.Prelude.{ℕ, Result}
use Rattle.std.specs.Result.{result_map_both}
use Rattle.detfile.specs.declared.refusal.FileRefusal.{FileRefusal}
use Rattle.filesource.specs.declared.source.Content.{Content}

-- the number of value lines alone
abbrev pub counted : Result Content FileRefusal → Result ℕ FileRefusal
counted r = result_map_both (λ c. c.count) (λ e. e) r
