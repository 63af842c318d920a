-- What a watch is told of a day.
use Rattle.std.proofs.Common.{◌≡◌, ℕ, zero, suc, ◌+◌, ◌-◌, ◌<◌, Bool, true, false, nat_lt, List, length, take, drop, ℤ, Some, None, Option, refl, sym, ap, ◌∙◌, arith, add-one}
use Rattle.std.proofs.Math.Seq.{take-append_seam}
use Rattle.terms.specs.Told.{Told, fine}
use Rattle.terms.specs.Sources.{Table}
use Rattle.intervals.specs.declared.fault.Fault.{Fault}
use Rattle.intervals.specs.declared.interval.Worked.{Worked}
use Rattle.intervals.specs.declared.warning.Warning.{Warning}
use Rattle.intervals.specs.Courses.{course}
use Rattle.runs.specs.declared.refusal.IntervalRefusal.{IntervalRefusal}
use Rattle.runs.specs.declared.refusal.IntervalRefusal.TheVariants.{Stopped, NotDue, FewRows, Halted}
use Rattle.runs.specs.declared.work.Work.{Work}
use Rattle.runs.specs.Refusals.{numbered}
use Rattle.runs.specs.Turns.{worked, is_due, answering}
use Rattle.runs.specs.Works.{WorkedBy}
use Rattle.books.specs.declared.refusal.BookRefusal.{BookRefusal}
use Rattle.books.specs.declared.refusal.BookRefusal.TheVariants.{OutOfRange, Reserved, Full, NotReserved}
use Rattle.books.specs.Kept.{Kept}
use Rattle.books.specs.Calls.{reserving}
use Rattle.books.specs.Refusals.{numbered as book_numbered}
use Rattle.accounts.specs.Slips.{given}
use Rattle.jobs.specs.Days.{Walk, noted, heard, walked, watched, run_over}
use Rattle.jobs.specs.Jobs.{job_watched}
use Rattle.jobs.proofs.Walking.{walk_stays, due_is, length_repeated}

-- an accepted interval answers how many rows it wrote, and there was room for them
module _ (rd : ℤ → ℕ → ℤ) (t : Table) (w : Work) (i rows : ℕ) (due : is_due w i ≡ true) (x : Worked) where
  record Counts : Type 0 where
    pub warnings : x.warnings ≡ length (course t w.day i).rows
    pub room : nat_lt rows 256 ≡ false

  counts_few : fine x ≡ answering rd t false w i rows → nat_lt rows 256 ≡ true → ⊥
  counts_few e f = grind arith

  counts_fine : fine x ≡ answering rd t false w i rows → nat_lt rows 256 ≡ false → (course t w.day i).fault ≡ None → x.warnings ≡ length (course t w.day i).rows
  unfolding worked
  counts_fine e f o = grind arith

  counts_halts : (f : Fault) → fine x ≡ answering rd t false w i rows → nat_lt rows 256 ≡ false → (course t w.day i).fault ≡ Some f → ⊥
  counts_halts f e r o = grind arith

  counts : fine x ≡ answering rd t false w i rows → Counts
  counts e = go (nat_lt rows 256) (course t w.day i).fault refl refl
    where
      go : (b : Bool) (o : Option Fault) → nat_lt rows 256 ≡ b → (course t w.day i).fault ≡ o → Counts
      go true o f g = absurd (counts_few e f)
      go false None f g = record { warnings = counts_fine e f g; room = f }
      go false (Some y) f g = absurd (counts_halts y e f g)

-- the rows that an interval wrote stand in front
shown : (t : Table) (y i : ℕ) (vs : List Warning) → nat_lt (length vs) 256 ≡ false → take (length (course t y i).rows) (noted t y i vs) ≡ (course t y i).rows
shown t y i vs room = rw room (take-append_seam (course t y i).rows (drop (length (course t y i).rows) vs))

module _ {S : Type 0} (tell : S → ℕ → List Warning → S) where
  heard_not : (i : ℕ) (rows : List Warning) (s : S) (e : IntervalRefusal) (a : Told (Unit {0})) → a ≡ numbered e → heard tell i rows s a ≡ s
  heard_not i rows s Stopped a h = rw h refl
  heard_not i rows s NotDue a h = rw h refl
  heard_not i rows s FewRows a h = rw h refl
  heard_not i rows s (Halted p) a h = rw h refl

  pub watched_none : (t : Table) (y : ℕ) (ws : List Warning) (s : S) → s ≡ watched tell t y ws s 0
  unfolding watched
  watched_none t y ws s = refl

  module _ (t : Table) (y : ℕ) (ws : List Warning) (s : S) where
    -- nothing more is told after a refusal
    stays : (n k m : ℕ) (e : IntervalRefusal) → m ≡ k + n → (walked t y ws (suc n)).told ≡ numbered e → watched tell t y ws s m ≡ watched tell t y ws s n
    unfolding watched
    stays n zero m e is h = let same : m ≡ n = omega arith in ap (watched tell t y ws s) same
    stays n (suc k) m e is h =
        let next : m ≡ suc (k + n) = omega arith in
        let g = walk_stays t y ws (suc n) k (suc (k + n)) e (omega arith) h in
        rw next (heard_not (suc (k + n)) (course t y (suc (k + n))).rows (watched tell t y ws s (k + n)) e (walked t y ws (suc (k + n))).told (ap (λ (w : Walk). w.told) g ∙ h) ∙ stays n k (k + n) e refl h)

    step_told : (n : ℕ) (us : List Warning) → walked t y ws (suc n) ≡ record { told = fine tt; warnings = us } → watched tell t y ws s (suc n) ≡ tell (watched tell t y ws s n) (suc n) (course t y (suc n)).rows
    unfolding watched
    step_told n us e = rw e refl

    pub watch_stops : (n : ℕ) (e : IntervalRefusal) (us : List Warning) (z : S) → n < 96 → walked t y ws (n + 1) ≡ record { told = numbered e; warnings = us } → z ≡ watched tell t y ws s n → z ≡ watched tell t y ws s 96
    watch_stops n e us z lt is h =
        let off : walked t y ws (suc n) ≡ record { told = numbered e; warnings = us } = rw (← add-one) is in
        h ∙ sym (stays n (96 - n) 96 e (omega arith) (ap (λ (w : Walk). w.told) off))

    -- one interval more: all before were accepted, the run, of day y, was worked by them, and so is this one
    module _ (rd : ℤ → ℕ → ℤ) (n : ℕ) (vs us : List Warning) (w : Work) (b : Bool) (by : WorkedBy (run_over y rd n t) w) (lt : n < 96) (going : b ≡ false) where
      pub watch_more : (x : Worked) (z v : S) → fine x ≡ answering rd t b w (n + 1) (length vs) → us ≡ noted t y (n + 1) vs → walked t y ws (n + 1) ≡ record { told = fine tt; warnings = us } → z ≡ watched tell t y ws s n → v ≡ tell z (n + 1) (take x.warnings us) → v ≡ watched tell t y ws s (n + 1)
      watch_more x z v said written on before now =
          let due : is_due w (n + 1) ≡ true = due_is w n (by.intervals ∙ length_repeated n t) lt in
          let c = counts rd t w (n + 1) (length vs) due x (said ∙ ap (λ z. answering rd t z w (n + 1) (length vs)) going) in
          let count : x.warnings ≡ length (course t y (n + 1)).rows = c.warnings ∙ ap (λ z. length (course t z (n + 1)).rows) by.day in
          let rows : take x.warnings us ≡ (course t y (n + 1)).rows = ap (λ z. take z us) count ∙ ap (λ z. take (length (course t y (n + 1)).rows) z) written ∙ shown t y (n + 1) vs c.room in
          now ∙ ap (λ z. tell z (n + 1) (take x.warnings us)) before ∙ ap (λ z. tell (watched tell t y ws s n) (n + 1) z) rows ∙ rw add-one (sym (step_told n us (rw (← add-one) on)))

  -- a job's watch is told of the day where it was reserved, and else of nothing
  module _ (t : Table) (d : ℕ) (ws : List Warning) (k : Kept) (s : S) where
    pub watch_idle : (e : BookRefusal) → book_numbered e ≡ given d (reserving k d).answer → s ≡ job_watched tell t d ws k s
    unfolding job_watched
    watch_idle OutOfRange e = rw (← e) refl
    watch_idle Reserved e = rw (← e) refl
    watch_idle Full e = rw (← e) refl
    watch_idle NotReserved e = rw (← e) refl

    pub watch_day : (z : S) → fine d ≡ given d (reserving k d).answer → z ≡ watched tell t d ws s 96 → z ≡ job_watched tell t d ws k s
    unfolding job_watched
    watch_day z e h = rw (← e) h
