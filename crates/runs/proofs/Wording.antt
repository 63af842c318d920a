-- A call for an interval keeps its words.
use Rattle.std.proofs.Common.{◌≡◌, ℕ, ◌+◌, ◌≤◌, Bool, true, false, List, ◌++◌, length, take, drop, Some, None, Ok, Err, Option, sym, ap, ◌∙◌, subst, arith}
use Rattle.std.proofs.lemmas.List.{length-append, take-append-le}
use Rattle.terms.specs.Sources.{Table}
use Rattle.intervals.specs.declared.fault.Fault.{Fault}
use Rattle.intervals.specs.declared.fault.Stop.{Stop}
use Rattle.intervals.specs.declared.interval.Worked.{Worked}
use Rattle.intervals.specs.declared.warning.Warning.{Warning}
use Rattle.intervals.specs.Courses.{Course, warning_rows, in_front}
use Rattle.intervals.specs.Settlements.{stop_of}
use Rattle.intervals.specs.Words.{Asking}
use Rattle.runs.specs.declared.refusal.IntervalRefusal.TheVariants.{Halted}
use Rattle.runs.specs.declared.work.Work.{Work}
use Rattle.runs.specs.Turns.{is_due}
use Rattle.runs.specs.Words.{IsDue, Turn}
use Rattle.runs.proofs.Turning.{due_parts}

-- a stop names the interval, and counts the rows written before it
pub stop_names : (y i : ℕ) (c : Course) (s : Stop) → Some s ≡ stop_of y i c → (s.warnings ≡ length c.rows) × (s.slot ≡ record { day = y; interval = i })
stop_names y i c s e = go c.fault e
  where
    go : (o : Option Fault) → Some s ≡ stop_of y i (record { rows = c.rows; fault = o }) → (s.warnings ≡ length c.rows) × (s.slot ≡ record { day = y; interval = i })
    go None h = absurd cc
    go (Some f) h = (cc, cc)

-- of the rows at the front of a longer list
pub asking_front : (t : Table) (y i : ℕ) (rs ws vs rest : List Warning) (n : ℕ) (o : Option Fault) → vs ≡ in_front rs ws → n ≡ length rs → Asking t y i (record { rows = take n vs; fault = o }) → Asking t y i (record { rows = take n (vs ++ rest); fault = o })
asking_front t y i rs ws vs rest n o e f a =
    let long : length vs ≡ length rs + length (drop (length rs) ws) = ap length e ∙ length-append rs (drop (length rs) ws) in
    let same : take n vs ≡ take n (vs ++ rest) = sym (take-append-le n vs rest (omega arith)) in
    subst (λ xs. Asking t y i (record { rows = xs; fault = o })) same a

module _ (t : Table) (stopped : Bool) (w : Work) (i : ℕ) (ws vs : List Warning) (on : stopped ≡ false) (due : is_due w i ≡ true) (room : warning_rows ≤ length ws) where
  next_one : IsDue w i
  next_one = let p = due_parts w i due in record { left = p.0; next = p.1 }

  pub turn_worked : (x : Worked) → Asking t w.day i (record { rows = take x.warnings vs; fault = None }) → Turn t stopped w i ws vs (Ok x)
  turn_worked x a = record {
    halted_before = (λ e. cc, λ e. let h = sym on ∙ e in cc);
    not_due = (λ e. absurd cc, λ h. absurd (h.1 next_one));
    few_rows = (λ e. absurd cc, λ h. absurd (omega (arith, h.2)));
    worked = λ z e. let same : x ≡ z = cc in subst (λ v. Asking t w.day i (record { rows = take v.warnings vs; fault = None })) same a;
    stops = λ s e. absurd cc;
    named = λ s e. cc;
  }

  pub turn_stops : (s : Stop) → s.slot ≡ record { day = w.day; interval = i } → Asking t w.day i (record { rows = take s.warnings vs; fault = Some s.fault }) → Turn t stopped w i ws vs (Err (Halted s))
  turn_stops s slot a = record {
    halted_before = (λ e. cc, λ e. let h = sym on ∙ e in cc);
    not_due = (λ e. absurd cc, λ h. absurd (h.1 next_one));
    few_rows = (λ e. absurd cc, λ h. absurd (omega (arith, h.2)));
    worked = λ x e. absurd cc;
    stops = λ z e. let same : s ≡ z = cc in subst (λ v. Asking t w.day i (record { rows = take v.warnings vs; fault = Some v.fault })) same a;
    named = λ z e. let same : s ≡ z = cc in sym (ap (λ v. v.slot) same) ∙ slot;
  }
