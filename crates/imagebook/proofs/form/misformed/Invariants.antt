use Rattle.std.proofs.Common.{◌≡◌, drop}
use Rattle.imagebook.specs.Forms.{misformed}
use Rattle.imagebook.proofs.form.misformed.Given as goal

abbrev pub invariant-loop-index : goal.invariant-loop-index
invariant-loop-index l = misformed l.index (drop l.index l.places) ≡ misformed 0 l.places
