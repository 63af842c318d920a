-- What was called on a book and how it ended, the newest call first, and what it comes to. Assumes nothing.
use Rattle.std.specs.Prelude.{◌≡◌, ℕ, suc, ◌-◌, ◌*◌, ◌<◌, ◌≤◌, Bool, true, false, cond, List, [], ◌∷◌, length, Ok, Err, Result, ◌==◌, slice_index_or, unsigned_abs}
use Rattle.terms.specs.Told.{Told, fine, refuse}
use Rattle.terms.specs.Limits.{last_day, last_interval}
use Rattle.amounts.specs.declared.row.Amounts.{Amounts}
use Rattle.amounts.specs.Sums.{sum_to}
use Rattle.amounts.specs.Triples.{none, plus, net}
use Rattle.amounts.specs.Traces.{Trace, amount, shares, entities, Accepted}
use Rattle.runs.specs.Works.{FaultlessOver, CompleteOver}
use Rattle.books.specs.declared.account.Account.{Account}
use Rattle.books.specs.declared.refusal.BookRefusal.{BookRefusal}
use Rattle.books.specs.declared.refusal.BookRefusal.TheVariants.{NotReserved}
use Rattle.books.specs.Refusals.{number_of}
use Rattle.books.specs.Kept.{Kept, entry}
use Rattle.books.specs.Calls.{reading}

-- each call with its day and its answer; a posting also with the trace of the run whose sheet it took, and the bill rows after it
pub data Event : Type 0 where
  reserves : ℕ → Told ℕ → Event
  withdraws : ℕ → Told (Unit {0}) → Event
  posts : ℕ → Trace → List Amounts → Told ℕ → Event

abbrev pub History : Type 0
History = List Event

-- what a call did to the day's slips, and what it billed
pub data Effect : Type 0 where
  nothing : Effect
  gave : ℕ → Effect
  took : ℕ → Effect
  settled : ℕ → Trace → ℕ → List Amounts → Effect

-- a posting or a withdrawal takes its slip, accepted or refused
abbrev pub effect : Event → Effect
effect (reserves d (fine x)) = gave d
effect (reserves d (refuse n vs)) = nothing
effect (withdraws d a) = took d
effect (posts d t bills (fine x)) = settled d t x bills
effect (posts d t bills (refuse n vs)) = took d

abbrev pub out_by : Effect → ℕ → ℕ → ℕ
out_by nothing d n = n
out_by (gave e) d n = cond (d == e) (suc n) n
out_by (took e) d n = cond (d == e) (n - 1) n
out_by (settled e t c bills) d n = cond (d == e) (n - 1) n

-- how many slips for the day are out; where none is, a slip that another book gave, spent here, takes none
abbrev pub out : History → ℕ → ℕ
out [] d = 0
out (e ∷ h) d = out_by (effect e) d (out h d)

abbrev pub issued_by : Effect → ℕ → ℕ → Amounts → Amounts
issued_by nothing d q z = z
issued_by (gave e) d q z = z
issued_by (took e) d q z = z
issued_by (settled e t c bills) d q z = cond (d == e) (plus z (slice_index_or bills q none)) z

-- all that was billed of a day to an entity: the three charge types each for itself
abbrev pub issued : History → ℕ → ℕ → Amounts
issued [] d q = none
issued (e ∷ h) d q = issued_by (effect e) d q (issued h d q)

-- the run last posted, or none
pub data Latest : Type 0 where
  never : Latest
  run : Trace → Latest

abbrev pub last_by : Effect → ℕ → Latest → Latest
last_by nothing d z = z
last_by (gave e) d z = z
last_by (took e) d z = z
last_by (settled e t c bills) d z = cond (d == e) (run t) z

abbrev pub last : History → ℕ → Latest
last [] d = never
last (e ∷ h) d = last_by (effect e) d (last h d)

abbrev pub answered_by : Effect → ℕ → ℕ → ℕ
answered_by nothing d z = z
answered_by (gave e) d z = z
answered_by (took e) d z = z
answered_by (settled e t c bills) d z = cond (d == e) c z

-- what the last accepted posting of the day answered
abbrev pub answered : History → ℕ → ℕ
answered [] d = 0
answered (e ∷ h) d = answered_by (effect e) d (answered h d)

-- of the run last posted: an entity's amounts by the formulas, and its charged shares; nothing where there is none
abbrev pub amount_by : Latest → ℕ → Amounts
amount_by never q = none
amount_by (run t) q = amount t q

abbrev pub shares_by : Latest → ℕ
shares_by never = 0
shares_by (run t) = shares t

abbrev pub is_run : Latest → Bool
is_run never = false
is_run (run t) = true

-- a run of that day over all its intervals: at none of them did a source stop the asking, and all that each needed was there and in its range,
-- owners being codes of entities; under a rule that keeps its law
pub record Whole (d : ℕ) (t : Trace) : Type 0 where
  pub same : t.day ≡ d
  pub long : last_interval ≤ length t.tables
  pub faultless : FaultlessOver t.day t.tables
  pub complete : CompleteOver t.day t.tables
  pub accepted : Accepted t

abbrev pub WholeBy : ℕ → Latest → Type 0
WholeBy d never = Unit {0}
WholeBy d (run t) = Whole d t

-- a day reads as reserved
abbrev pub reads_reserved : Result Account BookRefusal → Bool
reads_reserved (Ok a) = a.reserved
reads_reserved (Err e) = false

-- THE LAW OF ACCOUNTS, between what was called on a book and what it keeps
pub record Accounts (h : History) (k : Kept) : Type 0 where
  -- the bills of a day add up, for each entity and charge type, to its amounts by the formulas over the sources of the run last posted
  pub issued_is : (d q : ℕ) → q < entities → issued h d q ≡ amount_by (last h d) q
  -- all bills of a day together miss zero by at most half a cent for each charged share that its last posting answered
  pub bounded : (d : ℕ) → 2 * unsigned_abs (sum_to entities (λ q. net (issued h d q))) ≤ answered h d
  -- and those are the charged shares of that run
  pub answered_is : (d : ℕ) → answered h d ≡ shares_by (last h d)
  -- a day reads as reserved, of whichever entity it is read, just where one slip for it is out, and there is never more than one
  pub slip_out : (d q : ℕ) → q < entities → out h d ≡ cond (reads_reserved (reading k d q)) 1 0
  -- the run last posted for a day is a whole run of that day
  pub whole : (d : ℕ) → WholeBy d (last h d)
  -- the book keeps what was billed, and whether anything was
  pub kept : (d q : ℕ) → q < entities → slice_index_or (entry k d).amounts q none ≡ issued h d q
  pub marked : (d : ℕ) → (entry k d).billed ≡ is_run (last h d)
  -- no day is reserved that cannot be read
  pub within : (d : ℕ) → (entry k d).reserved ≡ true → d ≤ last_day

-- a slip for the day is out
abbrev pub SlipOut : History → ℕ → Type 0
SlipOut h d = out h d ≡ 1

-- the call did not answer that the day is not reserved
abbrev pub Known : {X : Type 0} → Told X → Type 0
Known (fine x) = Unit {0}
Known (refuse n vs) = n ≡ number_of NotReserved → ⊥
