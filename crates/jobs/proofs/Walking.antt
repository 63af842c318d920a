-- Walking through the intervals of a day.
use Rattle.std.proofs.Common.{◌≡◌, ℕ, zero, suc, ◌+◌, ◌-◌, ◌<◌, Bool, true, false, nat_lt, List, length, ℤ, Ok, Err, Some, None, Option, refl, sym, ap, ◌∙◌, arith, add-one}
use Rattle.terms.specs.Told.{Told, fine, refuse}
use Rattle.terms.specs.Sources.{Table}
use Rattle.intervals.specs.declared.fault.Fault.{Fault}
use Rattle.intervals.specs.declared.interval.Worked.{Worked}
use Rattle.intervals.specs.declared.warning.Warning.{Warning}
use Rattle.intervals.specs.Courses.{course}
use Rattle.runs.specs.declared.refusal.IntervalRefusal.{IntervalRefusal}
use Rattle.runs.specs.declared.refusal.IntervalRefusal.TheVariants.{Stopped, NotDue, FewRows, Halted}
use Rattle.runs.specs.declared.work.Work.{Work}
use Rattle.runs.specs.Refusals.{numbered}
use Rattle.runs.specs.Turns.{told as turn_told, is_due, answering, warned, stopping}
use Rattle.runs.specs.Works.{WorkedBy}
use Rattle.jobs.specs.Days.{Walk, turn, noted, step_by, step, walked, counted, reached, repeated, run_over}

-- whether it was accepted, and nothing of the value
abbrev forget : {X : Type 0} → Told X → Told (Unit {0})
forget (fine x) = fine tt
forget (refuse n vs) = refuse n vs

forget_refusal : (e : IntervalRefusal) → forget (numbered {X = Worked} e) ≡ numbered e
forget_refusal Stopped = refl
forget_refusal NotDue = refl
forget_refusal FewRows = refl
forget_refusal (Halted s) = refl

module _ (rd : ℤ → ℕ → ℤ) (t : Table) (w : Work) (i rows : ℕ) (due : is_due w i ≡ true) where
  turn_few : nat_lt rows 256 ≡ true → forget (answering rd t false w i rows) ≡ turn t w.day i rows
  turn_few f = grind arith

  turn_fine : nat_lt rows 256 ≡ false → (course t w.day i).fault ≡ None → forget (answering rd t false w i rows) ≡ turn t w.day i rows
  turn_fine f o = grind arith

  turn_halts : (x : Fault) → nat_lt rows 256 ≡ false → (course t w.day i).fault ≡ Some x → forget (answering rd t false w i rows) ≡ turn t w.day i rows
  turn_halts x f o = grind arith

  turn_is : forget (answering rd t false w i rows) ≡ turn t w.day i rows
  turn_is = go (nat_lt rows 256) (course t w.day i).fault refl refl
    where
      go : (b : Bool) (o : Option Fault) → nat_lt rows 256 ≡ b → (course t w.day i).fault ≡ o → forget (answering rd t false w i rows) ≡ turn t w.day i rows
      go true o f g = turn_few f
      go false None f g = turn_fine f g
      go false (Some x) f g = turn_halts x f g

  pub turn_ok : (x : Worked) → turn_told (Ok x) ≡ answering rd t false w i rows → turn t w.day i rows ≡ fine tt
  turn_ok x e = sym turn_is ∙ ap forget (sym e)

  pub turn_err : (e : IntervalRefusal) → turn_told (Err e) ≡ answering rd t false w i rows → turn t w.day i rows ≡ numbered e
  turn_err e h = sym turn_is ∙ ap forget (sym h) ∙ forget_refusal e

pub warned_is : (t : Table) (w : Work) (i : ℕ) (ws : List Warning) → is_due w i ≡ true → warned t false w i ws ≡ noted t w.day i ws
warned_is t w i ws due = grind arith

-- an accepted interval does not stop the run
pub stays_going : (t : Table) (w : Work) (i rows : ℕ) → turn t w.day i rows ≡ fine tt → stopping t false w i rows ≡ false
stays_going t w i rows e = grind arith

module _ (t : Table) (y : ℕ) (ws : List Warning) where
  step_on : (n : ℕ) (vs : List Warning) → walked t y ws n ≡ record { told = fine tt; warnings = vs } → walked t y ws (suc n) ≡ record { told = turn t y (suc n) (length vs); warnings = noted t y (suc n) vs }
  unfolding walked
  step_on n vs e = rw e refl

  pub walk_more : (n : ℕ) (vs : List Warning) → walked t y ws n ≡ record { told = fine tt; warnings = vs } → walked t y ws (n + 1) ≡ record { told = turn t y (n + 1) (length vs); warnings = noted t y (n + 1) vs }
  walk_more n vs e = rw add-one (step_on n vs e)

  step_stays : (i : ℕ) (w : Walk) (e : IntervalRefusal) → w.told ≡ numbered e → step t y i w ≡ w
  step_stays i w Stopped h = rw h refl
  step_stays i w NotDue h = rw h refl
  step_stays i w FewRows h = rw h refl
  step_stays i w (Halted s) h = rw h refl

  -- nothing more is worked after a refusal
  pub walk_stays : (n k m : ℕ) (e : IntervalRefusal) → m ≡ k + n → (walked t y ws n).told ≡ numbered e → walked t y ws m ≡ walked t y ws n
  unfolding walked
  walk_stays n zero m e is h = let same : m ≡ n = omega arith in ap (walked t y ws) same
  walk_stays n (suc k) m e is h =
      let next : m ≡ suc (k + n) = omega arith in
      let g = walk_stays n k (k + n) e refl h in
      rw next (step_stays (suc (k + n)) (walked t y ws (k + n)) e (ap (λ w. w.told) g ∙ h) ∙ g)

  pub step_from : (i : ℕ) (w : Walk) (a : Told (Unit {0})) → w.told ≡ a → (step t y i w).told ≡ fine tt → w.told ≡ fine tt
  step_from i w (fine x) is e = is
  step_from i w (refuse n us) is e = (let f : (step t y i w).told ≡ refuse n us = ap (λ z. (step_by t y i w z).told) is ∙ is in cc)

  -- where the first n intervals end well, they are all worked
  pub reached_all : (n : ℕ) → (walked t y ws n).told ≡ fine tt → reached t y ws n ≡ n
  unfolding reached walked
  reached_all zero e = refl
  reached_all (suc n) e = rw e (ap suc (reached_all n (step_from (suc n) (walked t y ws n) (walked t y ws n).told refl e)))

  counted_not : (e : IntervalRefusal) (a : Told (Unit {0})) (n : ℕ) → a ≡ numbered e → counted a n ≡ n
  counted_not Stopped a n h = rw h refl
  counted_not NotDue a n h = rw h refl
  counted_not FewRows a n h = rw h refl
  counted_not (Halted s) a n h = rw h refl

  -- and where the next one is refused, no more are
  pub reached_stays : (n k m : ℕ) (e : IntervalRefusal) → m ≡ k + suc n → (walked t y ws (suc n)).told ≡ numbered e → reached t y ws m ≡ reached t y ws n
  unfolding reached
  reached_stays n zero m e is h = let same : m ≡ suc n = omega arith in ap (reached t y ws) same ∙ counted_not e (walked t y ws (suc n)).told (reached t y ws n) h
  reached_stays n (suc k) m e is h =
      let next : m ≡ suc (k + suc n) = omega arith in
      let g = walk_stays (suc n) (suc k) (suc (k + suc n)) e (omega arith) h in
      rw next (counted_not e (walked t y ws (suc (k + suc n))).told (reached t y ws (k + suc n)) (ap (λ w. w.told) g ∙ h) ∙ reached_stays n k (k + suc n) e refl h)

pub due_is : (w : Work) (n : ℕ) → w.intervals ≡ n → n < 96 → is_due w (n + 1) ≡ true
due_is w n e lt = grind arith

pub length_repeated : (n : ℕ) (t : Table) → length (repeated n t) ≡ n
unfolding repeated
length_repeated zero t = refl
length_repeated (suc n) t = ap suc (length_repeated n t)

-- one interval more: all before were accepted, and the run, of day y, was worked by them
module _ (t : Table) (rd : ℤ → ℕ → ℤ) (y n : ℕ) (ws vs us : List Warning) (w : Work) (b : Bool) (so : walked t y ws n ≡ record { told = fine tt; warnings = vs }) (by : WorkedBy (run_over y rd n t) w) (lt : n < 96) (going : b ≡ false) where
  due : is_due w (n + 1) ≡ true
  due = due_is w n (by.intervals ∙ length_repeated n t) lt

  pub next_warned : us ≡ warned t b w (n + 1) vs → us ≡ noted t y (n + 1) vs
  next_warned h = h ∙ ap (λ z. warned t z w (n + 1) vs) going ∙ warned_is t w (n + 1) vs due ∙ ap (λ z. noted t z (n + 1) vs) by.day

  next_walked : (a : Told (Unit {0})) → turn t w.day (n + 1) (length vs) ≡ a → us ≡ warned t b w (n + 1) vs → walked t y ws (n + 1) ≡ record { told = a; warnings = us }
  next_walked a is h =
      walk_more t y ws n vs so
      ∙ (ap (λ z. record { told = z; warnings = noted t y (n + 1) vs }) (ap (λ z. turn t z (n + 1) (length vs)) (sym by.day) ∙ is) ∙ ap (λ z. record { told = a; warnings = z }) (sym (next_warned h)))

  pub accepted : (x : Worked) → fine x ≡ answering rd t b w (n + 1) (length vs) → us ≡ warned t b w (n + 1) vs → walked t y ws (n + 1) ≡ record { told = fine tt; warnings = us }
  accepted x said h = next_walked (fine tt) (turn_ok rd t w (n + 1) (length vs) due x (said ∙ ap (λ z. answering rd t z w (n + 1) (length vs)) going)) h

  pub still_going : (x : Worked) → fine x ≡ answering rd t b w (n + 1) (length vs) → stopping t b w (n + 1) (length vs) ≡ false
  still_going x said =
      ap (λ z. stopping t z w (n + 1) (length vs)) going
      ∙ stays_going t w (n + 1) (length vs) (turn_ok rd t w (n + 1) (length vs) due x (said ∙ ap (λ z. answering rd t z w (n + 1) (length vs)) going))

  pub halted : (e : IntervalRefusal) → numbered e ≡ answering rd t b w (n + 1) (length vs) → us ≡ warned t b w (n + 1) vs → walked t y ws (n + 1) ≡ record { told = numbered e; warnings = us }
  halted e said h = next_walked (numbered e) (turn_err rd t w (n + 1) (length vs) due e (said ∙ ap (λ z. answering rd t z w (n + 1) (length vs)) going)) h

  pub reached_here : (e : IntervalRefusal) → walked t y ws (n + 1) ≡ record { told = numbered e; warnings = us } → reached t y ws 96 ≡ n
  reached_here e off =
      let on : (walked t y ws (suc n)).told ≡ numbered e = rw (← add-one) (ap (λ z. z.told) off) in
      reached_stays t y ws n (96 - suc n) 96 e (omega arith) on ∙ reached_all t y ws n (ap (λ z. z.told) so)

  pub refused : (e : IntervalRefusal) → numbered e ≡ answering rd t b w (n + 1) (length vs) → us ≡ warned t b w (n + 1) vs → walked t y ws 96 ≡ record { told = numbered e; warnings = us }
  refused e said h =
      let g = halted e said h in
      walk_stays t y ws (n + 1) (96 - (n + 1)) 96 e (omega arith) (ap (λ z. z.told) g) ∙ g
