-- The course of the asking: which warning rows it writes, and at which question it stops, if at any. Assumes nothing.
use Rattle.std.specs.Prelude.{ℕ, zero, suc, ◌+◌, ◌*◌, ◌/◌, ◌%◌, Bool, cond, List, [], ◌∷◌, ◌++◌, length, drop, Some, None, Option, ◌==◌, slice_set, unsigned_abs}
use Rattle.terms.specs.declared.determinant.Determinant.{Determinant}
use Rattle.terms.specs.declared.determinant.Determinant.TheVariants.{Owner, Vssvariol, Urllag, Urllead, Rtvar, Hsl, Lsl, Rtspp, Rthslaiec, Rtvssaiec, Rtmg, Lrs, Vssvarpr}
use Rattle.terms.specs.Determinants.{number_of}
use Rattle.terms.specs.Sources.{Table}
use Rattle.amounts.specs.Sums.{add_to}
use Rattle.amounts.specs.Tables.{answer, at}
use Rattle.amounts.specs.Traces.{entities, resources}
use Rattle.intervals.specs.declared.fault.Cause.{Cause}
use Rattle.intervals.specs.declared.fault.Cause.TheVariants.{Shares}
use Rattle.intervals.specs.declared.fault.Fault.{Fault}
use Rattle.intervals.specs.declared.judge.Judgement.{Judgement}
use Rattle.intervals.specs.declared.judge.Judgement.TheVariants.{Taken, Warned, Skipped, Stopped}
use Rattle.intervals.specs.declared.warning.Warning.{Warning}
use Rattle.intervals.specs.Judgements.{judged}

pub record Course : Type 0 where
  pub rows : List Warning
  pub fault : Option Fault

-- nothing written, no fault
abbrev pub clear : Course
clear = record { rows = []; fault = None }

abbrev pub fault_at : Cause → Determinant → ℕ → Fault
fault_at c d u = record { cause = c; determinant = d; unit = u }

abbrev pub halted : Fault → Course
halted f = record { rows = []; fault = Some f }

-- rows written before a course
abbrev pub before : List Warning → Course → Course
before ws c = record { rows = ws ++ c.rows; fault = c.fault }

abbrev next_by : Option Fault → Course → Course → Course
next_by (Some f) a b = a
next_by None a b = before a.rows b

-- one course and then another, which a fault in the first leaves out
abbrev pub next : Course → Course → Course
next a b = next_by a.fault a b

-- hour h has the intervals 4h - 3 to 4h
abbrev pub hour_of : ℕ → ℕ
hour_of i = (i + 3) / 4

abbrev pub opens_hour : ℕ → Bool
opens_hour i = i % 4 == 1

-- the most warning rows that an interval may have: two for each Resource
abbrev pub warning_rows : ℕ
warning_rows = 2 * resources

-- the determinants of a Resource, in asking order
unfoldable pub of_resource : List Determinant
of_resource = Owner ∷ Vssvariol ∷ Urllag ∷ Urllead ∷ Rtvar ∷ Hsl ∷ Lsl ∷ Rtspp ∷ Rthslaiec ∷ Rtvssaiec ∷ Rtmg ∷ []

-- the warning rows of one judgement: one for a missing cost in the first interval of an hour
abbrev pub rows_for : ℕ → ℕ → ℕ → Determinant → Judgement → List Warning
rows_for y i u d (Taken x) = []
rows_for y i u d Warned = cond (opens_hour i) (record { determinant = number_of d; resource = u; day = y; hour = hour_of i } ∷ []) []
rows_for y i u d Skipped = []
rows_for y i u d (Stopped c) = []

module _ (t : Table) (y i : ℕ) where
  -- the judgement of the answer about a determinant and a unit
  abbrev pub judged_at : Determinant → ℕ → Judgement
  judged_at d u = judged d (answer t y i d u)

  -- after one judgement, where c is the course of the questions that follow
  abbrev pub step : ℕ → Determinant → Judgement → Course → Course
  step u d (Taken x) c = c
  step u d Warned c = before (rows_for y i u d Warned) c
  step u d Skipped c = clear
  step u d (Stopped k) c = halted (fault_at k d u)

  -- determinants of one unit, one after the other
  abbrev pub walk : ℕ → List Determinant → Course
  walk u [] = clear
  walk u (d ∷ ds) = step u d (judged_at d u) (walk u ds)

  unfoldable pub resource : ℕ → Course
  resource u = walk u of_resource

  -- the first n Resources
  unfoldable pub resources_to : ℕ → Course
  resources_to zero = clear
  resources_to (suc n) = next (resources_to n) (resource n)

  -- the shares of the first n entities
  unfoldable pub shares_to : ℕ → Course
  shares_to zero = clear
  shares_to (suc n) = next (shares_to n) (walk n (Lrs ∷ []))

  -- the shares must be all of the load together
  unfoldable pub summed : Course
  summed = cond (add_to entities (λ q. unsigned_abs (at t y i Lrs q)) == 1000000) clear (halted (fault_at Shares Lrs 0))

  -- THE ASKING ORDER: the price, the Resources, the shares, and then their sum
  unfoldable pub course : Course
  course = next (walk 0 (Vssvarpr ∷ [])) (next (resources_to resources) (next (shares_to entities) summed))

-- rows at the front of a list: they stand there in order, and the other rows as they were
abbrev pub in_front : List Warning → List Warning → List Warning
in_front rs ws = rs ++ drop (length rs) ws

-- rows written one after the other from row n on
abbrev pub written : List Warning → ℕ → List Warning → List Warning
written ws n [] = ws
written ws n (r ∷ rs) = written (slice_set ws n r) (n + 1) rs

-- a list of warnings, how many of its rows were written, and the fault
pub record After : Type 0 where
  pub warnings : List Warning
  pub noted : ℕ
  pub fault : Option Fault

abbrev pub after : List Warning → ℕ → Course → After
after ws n c = record { warnings = written ws n c.rows; noted = n + length c.rows; fault = c.fault }
