-- What asking comes to, as the code has it. Assumes nothing.
use Rattle.std.specs.Prelude.{◌≡◌, ℕ, ◌-◌, ◌*◌, ◌<◌, ◌≤◌, true, false, List, [], ◌∷◌, length, take, ℤ, pos, Some, None, Ok, Err, Option, Result, ◌≢◌, slice_index, slice_index_or, unsigned_abs}
use Rattle.terms.specs.declared.determinant.Determinant.{Determinant}
use Rattle.intervals.specs.declared.asking.Asked.{Asked}
use Rattle.intervals.specs.declared.asking.Figures.{Figures}
use Rattle.intervals.specs.declared.judge.Judgement.{Judgement}
use Rattle.intervals.specs.declared.judge.Judgement.TheVariants.{Taken, Warned}
use Rattle.terms.specs.declared.determinant.Determinant.TheVariants.{Owner, Vssvariol, Urllag, Urllead, Rtvar, Hsl, Lsl, Rtspp, Rthslaiec, Rtvssaiec, Rtmg, Lrs, Vssvarpr}
use Rattle.terms.specs.declared.determinant.Missing.TheVariants.{Skip, Warning as Warns}
use Rattle.terms.specs.Sources.{Table}
use Rattle.std.specs.Option.{unwrap_or}
use Rattle.amounts.specs.declared.readings.Readings.{Readings}
use Rattle.amounts.specs.Readings.{ranged}
use Rattle.amounts.specs.Tables.{skipped, at, readings_at}
use Rattle.amounts.specs.Traces.{entities}
use Rattle.intervals.specs.declared.fault.Fault.{Fault}
use Rattle.intervals.specs.declared.warning.Warning.{Warning}
use Rattle.terms.specs.Determinants.{number_of, missing_of, admitted}
use Rattle.intervals.specs.Courses.{Course, clear, halted, judged_at, walk, of_resource, next, shares_to, summed, After}
use Rattle.amounts.specs.Sums.{add_to}

abbrev pub fault_in : {X : Type 0} → Result X Fault → Option Fault
fault_in (Ok x) = None
fault_in (Err f) = Some f

-- the first n rows of a list, and the fault
abbrev pub course_of : {X : Type 0} → Result X Fault → List Warning → ℕ → Course
course_of r ws n = record { rows = take n ws; fault = fault_in r }

abbrev pub after_by : {X : Type 0} → List Warning → ℕ → Result X Fault → After
after_by ws n r = record { warnings = ws; noted = n; fault = fault_in r }

-- the judgement of which a figure, or none for a missing cost, was kept
abbrev pub held_as : Option ℤ → Judgement
held_as None = Warned
held_as (Some x) = Taken x

module _ (t : Table) (y i : ℕ) where
  -- what was kept of the first n determinants of a Resource
  abbrev pub Kept : ℕ → ℕ → List (Option ℤ) → Type 0
  Kept u n xs = (k : ℕ) → k < n → judged_at t y i (slice_index_or of_resource k Owner) u ≡ held_as (slice_index_or xs k None)

  pub record Passed (u : ℕ) : Type 0 where
    pub missing : skipped t y i u ≡ true
    pub owner : unsigned_abs (at t y i Owner u) < entities

  abbrev pub Reads : ℕ → Result (Option Figures) Fault → Type 0
  Reads u (Ok (Some f)) = Kept u 11 f.places
  Reads u (Ok None) = Passed u
  Reads u (Err f) = Unit {0}

-- neither passed over nor warned of where it is missing
pub record Needed (d : Determinant) : Type 0 where
  pub kept : missing_of d ≢ Skip
  pub unwarned : missing_of d ≢ Warns

-- where the figure of a determinant stands
abbrev pub place_of : Determinant → ℕ
place_of d = number_of d - 1

abbrev pub figure_at : List (Option ℤ) → Determinant → Option ℤ
figure_at xs d = slice_index_or xs (place_of d) None

abbrev pub number_at : List (Option ℤ) → Determinant → ℤ
number_at xs d = unwrap_or (figure_at xs d) (pos 0)

-- the readings among what was kept of a Resource's determinants
abbrev pub gathered : List (Option ℤ) → Readings
gathered xs = record {
  vssvariol = number_at xs Vssvariol;
  urllag = number_at xs Urllag;
  urllead = number_at xs Urllead;
  rtvar = number_at xs Rtvar;
  hsl = number_at xs Hsl;
  lsl = number_at xs Lsl;
  rtspp = number_at xs Rtspp;
  rthslaiec = figure_at xs Rthslaiec;
  rtvssaiec = figure_at xs Rtvssaiec;
  rtmg = number_at xs Rtmg;
}

abbrev pub asked_of : List (Option ℤ) → Asked
asked_of xs = record { owner = unsigned_abs (number_at xs Owner); readings = gathered xs }

module _ (t : Table) (y i : ℕ) where
  -- a Resource that is not passed over: its owner and its readings, each in its range
  pub record Found (u : ℕ) (a : Asked) : Type 0 where
    pub there : skipped t y i u ≡ false
    pub owner : a.owner ≡ unsigned_abs (at t y i Owner u)
    pub small : a.owner < 64
    pub readings : a.readings ≡ readings_at t y i u
    pub within : ranged (readings_at t y i u) ≡ true

  abbrev pub Asks : ℕ → Result (Option Asked) Fault → Type 0
  Asks u (Ok (Some a)) = Found u a
  Asks u (Ok None) = Passed t y i u
  Asks u (Err f) = Unit {0}

  -- a determinant that is never passed over or warned of, as it was asked
  pub record Plain (d : Determinant) (u : ℕ) (x : ℤ) : Type 0 where
    pub course : walk t y i u (d ∷ []) ≡ clear
    pub value : x ≡ at t y i d u
    pub within : admitted d (at t y i d u) ≡ true

  abbrev pub Figured : Determinant → ℕ → Result ℤ Fault → Type 0
  Figured d u (Ok x) = Plain d u x
  Figured d u (Err f) = walk t y i u (d ∷ []) ≡ halted f

  abbrev pub Priced : Result ℤ Fault → Type 0
  Priced r = Figured Vssvarpr 0 r

  abbrev pub Shared : ℕ → Result ℕ Fault → Type 0
  Shared q (Ok x) = (Plain Lrs q (at t y i Lrs q)) × ((x ≡ unsigned_abs (at t y i Lrs q)) × (x ≤ 1000000))
  Shared q (Err f) = walk t y i q (Lrs ∷ []) ≡ halted f

  -- the shares of the first n entities, and their sum
  pub record Dividing (n : ℕ) (xs : List ℕ) (s : ℕ) : Type 0 where
    pub long : length xs ≡ 64
    pub course : shares_to t y i n ≡ clear
    pub each : (q : ℕ) → q < n → slice_index xs q ≡ unsigned_abs (at t y i Lrs q)
    pub within : (q : ℕ) → q < n → admitted Lrs (at t y i Lrs q) ≡ true
    pub sum : s ≡ add_to n (λ q. unsigned_abs (at t y i Lrs q))
    pub small : s ≤ n * 1000000

  pub record Apportioned (xs : List ℕ) : Type 0 where
    pub course : next (shares_to t y i entities) (summed t y i) ≡ clear
    pub each : (q : ℕ) → q < 64 → slice_index xs q ≡ unsigned_abs (at t y i Lrs q)
    pub within : (q : ℕ) → q < 64 → admitted Lrs (at t y i Lrs q) ≡ true
    pub whole : add_to 64 (λ q. unsigned_abs (at t y i Lrs q)) ≡ 1000000

  abbrev pub Divided : Result (List ℕ) Fault → Type 0
  Divided (Ok xs) = Apportioned xs
  Divided (Err f) = next (shares_to t y i entities) (summed t y i) ≡ halted f
