-- A call for an interval that is accepted.
use Rattle.std.proofs.Common.{◌≡◌, ℕ, ◌+◌, ◌<◌, ◌≤◌, Bool, true, false, List, ◌++◌, length, take, drop, ℤ, Some, None, Option, sym, refl, ap, ◌∙◌, append_assoc, arith}
use Rattle.std.proofs.lemmas.List.{length-take-le, drop-append-le, take-append-drop}
use Rattle.terms.specs.Told.{fine}
use Rattle.terms.specs.Sources.{Table}
use Rattle.intervals.specs.declared.fault.Fault.{Fault}
use Rattle.intervals.specs.declared.interval.Worked.{Worked}
use Rattle.amounts.specs.declared.row.Amounts.{Amounts}
use Rattle.intervals.specs.declared.warning.Warning.{Warning}
use Rattle.intervals.specs.Courses.{Course, course, warning_rows, in_front}
use Rattle.intervals.specs.declared.fault.Stop.{Stop}
use Rattle.intervals.specs.Settlements.{SettledBy, stop_of}
use Rattle.intervals.specs.Stops.{numbered as stop_numbered}
use Rattle.runs.specs.declared.work.Work.{Work}
use Rattle.runs.specs.Turns.{is_due, barred, worked, answering, stopping, warned}

pub due_parts : (w : Work) (i : ℕ) → is_due w i ≡ true → (w.intervals < 96) × (i ≡ w.intervals + 1)
due_parts w i e = grind arith

-- no stop, no fault
pub no_fault : (y i : ℕ) (c : Course) → None ≡ stop_of y i c → c.fault ≡ None
no_fault y i c e = by c.fault c refl e
  where
    by : (o : Option Fault) (d : Course) → d.fault ≡ o → None ≡ stop_of y i d → d.fault ≡ None
    by None d is n = is
    by (Some f) d is n = let h : None ≡ stop_of y i (record { rows = d.rows; fault = Some f }) = n ∙ ap (λ o. stop_of y i (record { rows = d.rows; fault = o })) is in cc

module _ (t : Table) (stopped : Bool) (w : Work) (i : ℕ) (ws : List Warning) (on : stopped ≡ false) (due : is_due w i ≡ true) (room : warning_rows ≤ length ws) where
  goes : barred stopped w i (length ws) ≡ None
  goes = grind arith

  -- the rows at the front of the list, of which the first are written
  pub warned_is : (fs vs : List Warning) → fs ≡ take warning_rows ws → length (course t w.day i).rows ≤ warning_rows → vs ≡ in_front (course t w.day i).rows fs → vs ++ drop warning_rows ws ≡ warned t stopped w i ws
  warned_is fs vs first few e =
      let rs : List Warning = (course t w.day i).rows in
      let front : length (take warning_rows ws) ≡ warning_rows = length-take-le warning_rows ws room in
      ap (λ xs. xs ++ drop warning_rows ws) (e ∙ ap (in_front rs) first)
      ∙ append_assoc rs (drop (length rs) (take warning_rows ws)) (drop warning_rows ws)
      ∙ ap (λ xs. rs ++ xs) (sym (drop-append-le (length rs) (take warning_rows ws) (drop warning_rows ws) (omega arith)) ∙ ap (drop (length rs)) (take-append-drop warning_rows ws))
      ∙ sym (rw goes refl)

  pub stopping_is : (s : Stop) → Some s ≡ stop_of w.day i (course t w.day i) → true ≡ stopping t stopped w i (length ws)
  stopping_is s e = grind arith

  refusing_is : (rd : ℤ → ℕ → ℤ) (s : Stop) → Some s ≡ stop_of w.day i (course t w.day i) → stop_numbered s ≡ answering rd t stopped w i (length ws)
  refusing_is rd s e = grind arith

  pub answering_is : (rd : ℤ → ℕ → ℤ) → (course t w.day i).fault ≡ None → fine (worked rd t w.day i) ≡ answering rd t stopped w i (length ws)
  answering_is rd none = grind arith

pub worked_is : (rd : ℤ → ℕ → ℤ) (t : Table) (y i : ℕ) (rows : List Amounts) (w : Worked) → SettledBy rd t y i rows w.paid w.charges w.charged → w.warnings ≡ length (course t y i).rows → w ≡ worked rd t y i
unfolding worked
worked_is rd t y i rows w by n = grind arith

-- the answer of a call that stops, as the call's own facts have it
pub stop_told : (rd : ℤ → ℕ → ℤ) (t : Table) (stopped : Bool) (w : Work) (i : ℕ) (ws : List Warning) (s : Stop) → stopped ≡ false → is_due w i ≡ true → warning_rows ≤ length ws → Some s ≡ stop_of w.day i (course t w.day i) → stop_numbered s ≡ answering rd t stopped w i (length ws)
stop_told rd t stopped w i ws s on due room e = refusing_is t stopped w i ws on due room rd s e

-- the list of warnings after a call that asks, as the call's own facts have it
pub rows_told : (vs ws : List Warning) (t : Table) (stopped : Bool) (w : Work) (i : ℕ) → stopped ≡ false → is_due w i ≡ true → warning_rows ≤ length ws → length (course t w.day i).rows ≤ warning_rows → vs ≡ in_front (course t w.day i).rows (take warning_rows ws) → vs ++ drop warning_rows ws ≡ warned t stopped w i ws
rows_told vs ws t stopped w i on due room few e = warned_is t stopped w i ws on due room (take warning_rows ws) vs refl few e
