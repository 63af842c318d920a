-- The working of a file's day, over any table that answers as the file does about that day.
use Rattle.std.proofs.Common.{◌≡◌, ℕ, List, ℤ, Ok, Err, Result, IfOk, sym, ap, ◌∙◌, refl, arith}
use Rattle.terms.specs.Told.{Told, fine}
use Rattle.terms.specs.Limits.{last_interval}
use Rattle.terms.specs.Sources.{Table}
use Rattle.intervals.specs.declared.warning.Warning.{Warning}
use Rattle.detfile.specs.declared.refusal.FileRefusal.{FileRefusal}
use Rattle.detfile.specs.declared.refusal.FileRefusal.TheVariants.{TooLong, Names, Shape, Form, Beyond}
use Rattle.detfile.specs.Refusals.{numbered}
use Rattle.detfile.specs.Files.{checked}
use Rattle.runs.specs.declared.refusal.DayRefusal.{DayRefusal}
use Rattle.runs.specs.declared.refusal.DayRefusal.TheVariants.{OutOfRange}
use Rattle.runs.specs.declared.refusal.IntervalRefusal.{IntervalRefusal}
use Rattle.runs.specs.declared.work.Work.{Work}
use Rattle.runs.specs.Refusals.{day_numbered}
use Rattle.runs.specs.Days.{checking}
use Rattle.runs.specs.Works.{WorkedBy}
use Rattle.runs.specs.Sheets.{Said, said_of}
use Rattle.jobs.specs.Days.{walked, watched, reached, run_through, day_told}
use Rattle.jobs.proofs.Walking.{reached_all, length_repeated}
use Rattle.settlement.specs.declared.dayfile.DayFile.{DayFile}
use Rattle.settlement.specs.SameDays.{SameDay}
use Rattle.settlement.specs.Tables.{table_of}
use Rattle.settlement.specs.Workings.{run_worked_of, left, done, by_day, worked, heard_by_day, worked_watched}
use Rattle.settlement.proofs.DayWalked.{walks_same}
use Rattle.settlement.proofs.DayRuns.{through_same, said_same, worked_by_same}

-- a day that is checked is the day that was asked for
pub checked_day : (x y : ℕ) → fine x ≡ checking y → x ≡ y
checked_day x y h = grind arith

module _ (f : DayFile) (ws : List Warning) where
  module _ (rd : ℤ → ℕ → ℤ) where
    pub worked_refused : (e : FileRefusal) → numbered e ≡ checked f.bytes.now → worked f ws rd ≡ left f ws rd (numbered e)
    unfolding worked
    worked_refused TooLong is = rw (← is) refl
    worked_refused Names is = rw (← is) refl
    worked_refused (Shape n) is = rw (← is) refl
    worked_refused (Form n) is = rw (← is) refl
    worked_refused (Beyond n) is = rw (← is) refl

    worked_sound : (n : ℕ) → fine n ≡ checked f.bytes.now → worked f ws rd ≡ by_day f ws rd (checking f.day)
    unfolding worked
    worked_sound n is = rw (← is) refl

    pub worked_done : (n x : ℕ) → fine n ≡ checked f.bytes.now → fine x ≡ checking f.day → worked f ws rd ≡ done f ws rd
    worked_done n x is day = worked_sound n is ∙ ap (by_day f ws rd) (sym day)

    pub worked_no_day : (n : ℕ) (e : DayRefusal) → fine n ≡ checked f.bytes.now → day_numbered e ≡ checking f.day → worked f ws rd ≡ left f ws rd (day_numbered e)
    worked_no_day n OutOfRange is day = worked_sound n is ∙ ap (by_day f ws rd) (sym day)

  module _ {S : Type 0} (tell : S → ℕ → List Warning → S) (s : S) where
    pub heard_refused : (e : FileRefusal) → numbered e ≡ checked f.bytes.now → s ≡ worked_watched f ws tell s
    unfolding worked_watched
    heard_refused TooLong is = rw (← is) refl
    heard_refused Names is = rw (← is) refl
    heard_refused (Shape n) is = rw (← is) refl
    heard_refused (Form n) is = rw (← is) refl
    heard_refused (Beyond n) is = rw (← is) refl

    heard_sound : (n : ℕ) → fine n ≡ checked f.bytes.now → heard_by_day f ws tell s (checking f.day) ≡ worked_watched f ws tell s
    unfolding worked_watched
    heard_sound n is = rw (← is) refl

    pub heard_done : (n x : ℕ) → fine n ≡ checked f.bytes.now → fine x ≡ checking f.day → watched tell (table_of f) f.day ws s last_interval ≡ worked_watched f ws tell s
    heard_done n x is day = ap (heard_by_day f ws tell s) day ∙ heard_sound n is

    pub heard_no_day : (n : ℕ) (e : DayRefusal) → fine n ≡ checked f.bytes.now → day_numbered e ≡ checking f.day → s ≡ worked_watched f ws tell s
    heard_no_day n OutOfRange is day = ap (heard_by_day f ws tell s) day ∙ heard_sound n is

  -- the day is worked over a table that answers alike
  module _ (t : Table) (same : SameDay f.day t (table_of f)) (rd : ℤ → ℕ → ℤ) where
    pub worked_is : (said : Said) (told : Told (Unit {0})) → said ≡ said_of (run_through f.day rd t ws) → told ≡ (walked t f.day ws last_interval).told → worked f ws rd ≡ done f ws rd → fine (record { sheet = said; ended = told }) ≡ (worked f ws rd).answer
    worked_is said told s-is t-is is =
        ap (λ z. fine (record { sheet = z; ended = told })) (s-is ∙ said_same _ _ (through_same f.day t (table_of f) same rd ws))
        ∙ ap (λ z. fine (record { sheet = said_of (run_worked_of f ws rd); ended = z })) (t-is ∙ ap (λ w. w.told) ((walks_same f.day t (table_of f) same).walk ws last_interval))
        ∙ ap (λ o. o.answer) (sym is)

    pub warnings_are : (us : List Warning) → us ≡ (walked t f.day ws last_interval).warnings → worked f ws rd ≡ done f ws rd → us ≡ (worked f ws rd).warnings
    warnings_are us u-is is = u-is ∙ ap (λ w. w.warnings) ((walks_same f.day t (table_of f) same).walk ws last_interval) ∙ ap (λ o. o.warnings) (sym is)

    pub law_is : (w : Work) → WorkedBy (run_through f.day rd t ws) w → WorkedBy (run_worked_of f ws rd) w
    law_is w by = worked_by_same _ _ (through_same f.day t (table_of f) same rd ws) w by

    -- where the run did not stop, all intervals were worked
    pub whole_is : (w : Work) (r : Result (Unit {0}) IntervalRefusal) → day_told r ≡ (walked t f.day ws last_interval).told → WorkedBy (run_through f.day rd t ws) w → IfOk r (λ e. w.intervals ≡ last_interval)
    whole_is w (Err e) told by = tt
    whole_is w (Ok x) told by = by.intervals ∙ length_repeated (reached t f.day ws last_interval) t ∙ reached_all t f.day ws last_interval (sym told)
