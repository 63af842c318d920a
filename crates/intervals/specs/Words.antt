-- What the asking of an interval comes to, in words. Assumes nothing.
use Rattle.std.specs.Prelude.{◌≡◌, ℕ, zero, suc, Bool, true, false, cond, ◌&&◌, List, [], ◌∷◌, ◌++◌, map, filter_map, Some, None, Option, All, ◌⊎◌, ◌↔◌, unsigned_abs}
use Rattle.terms.specs.declared.answer.Answer.{Answer}
use Rattle.terms.specs.declared.answer.Answer.TheVariants.{NoCut, Null, Figure}
use Rattle.terms.specs.declared.determinant.Determinant.{Determinant}
use Rattle.terms.specs.declared.determinant.Determinant.TheVariants.{Owner, Vssvariol, Urllag, Urllead, Rtvar, Hsl, Lsl, Rtspp, Rthslaiec, Rtvssaiec, Rtmg, Lrs, Vssvarpr}
use Rattle.terms.specs.declared.determinant.Missing.{Missing as Rule}
use Rattle.terms.specs.declared.determinant.Missing.TheVariants.{Skip, Zero, Warning as Warns, Stop}
use Rattle.terms.specs.Determinants.{number_of, missing_of, admitted}
use Rattle.terms.specs.Sources.{Table}
use Rattle.amounts.specs.Sums.{add_to}
use Rattle.amounts.specs.Tables.{missing, answer, at}
use Rattle.amounts.specs.Traces.{entities, resources}
use Rattle.intervals.specs.declared.fault.Cause.{Cause}
use Rattle.intervals.specs.declared.fault.Cause.TheVariants.{Missing, OutOfRange, Shares}
use Rattle.intervals.specs.declared.fault.Fault.{Fault}
use Rattle.intervals.specs.declared.warning.Warning.{Warning}
use Rattle.intervals.specs.Courses.{Course, fault_at, hour_of, opens_hour}

-- a question of an interval: about a determinant, of a unit
pub record Question : Type 0 where
  pub determinant : Determinant
  pub unit : ℕ

abbrev pub about : ℕ → Determinant → Question
about u d = record { determinant = d; unit = u }

-- what is asked of each of the units 0 to n - 1, one unit after the other
unfoldable pub in_turn : (ℕ → List Question) → ℕ → List Question
in_turn asked zero = []
in_turn asked (suc n) = in_turn asked n ++ asked n

-- determinants 3 to 11
unfoldable pub readings : List Determinant
readings = Urllag ∷ Urllead ∷ Rtvar ∷ Hsl ∷ Lsl ∷ Rtspp ∷ Rthslaiec ∷ Rtvssaiec ∷ Rtmg ∷ []

-- all of the load, as shares have it
abbrev pub whole_load : ℕ
whole_load = 1000000

-- a missing figure stops an interval where its determinant's row says so
abbrev pub cause_missing : Rule → Option Cause
cause_missing Skip = None
cause_missing Zero = None
cause_missing Warns = None
cause_missing Stop = Some Missing

-- why an answer about a determinant stops an interval, if it does: it is missing, and the row says stop; or it is out of the range
abbrev pub cause_by : Determinant → Answer → Option Cause
cause_by d NoCut = cause_missing (missing_of d)
cause_by d Null = cause_missing (missing_of d)
cause_by d (Figure x) = cond (admitted d x) None (Some OutOfRange)

-- the determinants of which a missing one is warned
abbrev pub warned_of : Rule → Bool
warned_of Skip = false
warned_of Zero = false
warned_of Warns = true
warned_of Stop = false

module _ (t : Table) (y i : ℕ) where
  -- a Resource's questions: OWNER; VSSVARIOL where there is an owner; and determinants 3 to 11 where both are there
  abbrev pub of_one : ℕ → List Question
  of_one u =
      about u Owner
      ∷ cond (missing (answer t y i Owner u)) []
      (about u Vssvariol
      ∷ cond (missing (answer t y i Vssvariol u)) [] (map (about u) readings))

  -- an entity's one question
  abbrev pub share_of : ℕ → List Question
  share_of q = about q Lrs ∷ []

  -- THE QUESTIONS of an interval, in asking order: the price, the Resources', the shares
  unfoldable pub questions : List Question
  questions = about 0 Vssvarpr ∷ in_turn of_one resources ++ in_turn share_of entities

  -- the cause of a question to stop the interval: there is at most one
  abbrev pub cause_of : Question → Option Cause
  cause_of q = cause_by q.determinant (answer t y i q.determinant q.unit)

  -- the shares come to all of the load
  abbrev pub IsWhole : Type 0
  IsWhole = add_to entities (λ q. unsigned_abs (at t y i Lrs q)) ≡ whole_load

  -- the question is about a missing cost, in the first interval of an hour
  abbrev pub is_warned : Question → Bool
  is_warned q = opens_hour i && (missing (answer t y i q.determinant q.unit) && warned_of (missing_of q.determinant))

  -- the warning row of a question, if it has one
  abbrev pub warning_of : Question → Option Warning
  warning_of q = cond (is_warned q) (Some (record { determinant = number_of q.determinant; resource = q.unit; day = y; hour = hour_of i })) None

  -- the warning rows of questions, in their order
  abbrev pub warnings_of : List Question → List Warning
  warnings_of qs = filter_map warning_of qs

  -- none of these questions has a cause
  abbrev pub Causeless : List Question → Type 0
  Causeless qs = All (λ q. cause_of q ≡ None) qs

  -- the fault is that of the first question that has a cause: those before it have none
  pub record FirstCause (before : List Question) (f : Fault) : Type 0 where
    pub after : List Question
    pub place : questions ≡ before ++ about f.unit f.determinant ∷ after
    pub causeless : Causeless before
    pub cause : cause_of (about f.unit f.determinant) ≡ Some f.cause

  -- THE ASKING, in words, of its fault and its warning rows. It goes on to the end just where no question has a cause and the shares are all of
  -- the load. Its fault is that of the first question with a cause; or, just where no question has one and the shares are not all of the load,
  -- that of the shares, which is told as LRS of unit 0; and it has no other. The rows are those of the questions before the fault, or of all of
  -- them, in their order
  pub record Asking (c : Course) : Type 0 where
    pub goes : (c.fault ≡ None) ↔ (Causeless questions × IsWhole)
    pub stops : (before : List Question) (f : Fault) → FirstCause before f → c.fault ≡ Some f
    pub unshared : (c.fault ≡ Some (fault_at Shares Lrs 0)) ↔ (Causeless questions × (IsWhole → ⊥))
    pub caused : (f : Fault) → c.fault ≡ Some f → ((before : List Question) × FirstCause before f) ⊎ (f ≡ fault_at Shares Lrs 0)
    pub rows_before : (before : List Question) (f : Fault) → FirstCause before f → c.rows ≡ warnings_of before
    pub rows_all : Causeless questions → c.rows ≡ warnings_of questions
