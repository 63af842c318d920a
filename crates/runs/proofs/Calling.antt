-- A run call by call.
use Rattle.std.proofs.Common.{◌≡◌, ℕ, suc, ◌<◌, ◌≤◌, Bool, true, false, List, [], ◌∷◌, length, ℤ, Some, None, Option, Ok, Err, Result, refl, sym, ◌∙◌, subst, arith}
use Rattle.terms.specs.Told.{fine}
use Rattle.terms.specs.Sources.{Table}
use Rattle.intervals.specs.declared.fault.Fault.{Fault}
use Rattle.intervals.specs.declared.interval.Worked.{Worked}
use Rattle.intervals.specs.Stops.{stop_at}
use Rattle.intervals.specs.Courses.{course}
use Rattle.runs.specs.declared.refusal.IntervalRefusal.{IntervalRefusal}
use Rattle.runs.specs.declared.refusal.IntervalRefusal.TheVariants.{Stopped, NotDue, FewRows, Halted}
use Rattle.runs.specs.declared.work.Work.{Work}
use Rattle.runs.specs.Refusals.{numbered}
use Rattle.runs.specs.Turns.{told, worked, answering, stopping, barred_after, extended}
use Rattle.runs.specs.Works.{WorkedBy, traced, FaultlessOver}
use Rattle.runs.specs.Calls.{IntervalCall, Progress, called, progress, CalledOn}

not_fine : {X : Type 0} (x : Worked) (e : IntervalRefusal) → fine x ≡ numbered e → X
not_fine x Stopped h = cc
not_fine x NotDue h = cc
not_fine x FewRows h = cc
not_fine x (Halted s) h = cc

extended_not : (r : Result Worked IntervalRefusal) (e : IntervalRefusal) → told r ≡ numbered e → (t : Table) (ts : List Table) → extended r t ts ≡ ts
extended_not (Ok x) e h t ts = not_fine x e h
extended_not (Err x) e h t ts = refl

extended_fine : (r : Result Worked IntervalRefusal) (x : Worked) → told r ≡ fine x → (t : Table) (ts : List Table) → extended r t ts ≡ t ∷ ts
extended_fine (Ok z) x h t ts = refl
extended_fine (Err e) x h t ts = not_fine x e (sym h)

-- whether a call is barred, and whether its asking has a fault, decide what it comes to
module _ (y : ℕ) (p : Progress) (c : IntervalCall) where
  barred_stays : (e : IntervalRefusal) → barred_after p.stopped (length p.tables) c.interval c.rows ≡ Some e → called y c p ≡ p
  barred_stays e b = rw b refl

  fault_stops : (f : Fault) → barred_after p.stopped (length p.tables) c.interval c.rows ≡ None → (course c.table y c.interval).fault ≡ Some f → called y c p ≡ record { stopped = true; tables = p.tables }
  fault_stops f b g = rw (b, g) refl

  fine_goes_on : barred_after p.stopped (length p.tables) c.interval c.rows ≡ None → (course c.table y c.interval).fault ≡ None → called y c p ≡ record { stopped = p.stopped; tables = c.table ∷ p.tables }
  fine_goes_on b g = rw (b, g) refl

  next_due : barred_after p.stopped (length p.tables) c.interval c.rows ≡ None → (length p.tables < 96) × (c.interval ≡ suc (length p.tables))
  next_due b = (grind arith, grind arith)

  few_next : length p.tables ≤ 96 → length (called y c p).tables ≤ 96
  few_next le = go (barred_after p.stopped (length p.tables) c.interval c.rows) (course c.table y c.interval).fault refl refl
    where
      go : (b : Option IntervalRefusal) (o : Option Fault) → barred_after p.stopped (length p.tables) c.interval c.rows ≡ b → (course c.table y c.interval).fault ≡ o → length (called y c p).tables ≤ 96
      go (Some e) o b g = rw (barred_stays e b) le
      go None (Some f) b g = rw (fault_stops f b g) le
      go None None b g = rw (fine_goes_on b g) (let d = next_due b in omega arith)

  faultless_next : FaultlessOver y p.tables → FaultlessOver y (called y c p).tables
  unfolding FaultlessOver
  faultless_next all = go (barred_after p.stopped (length p.tables) c.interval c.rows) (course c.table y c.interval).fault refl refl
    where
      go : (b : Option IntervalRefusal) (o : Option Fault) → barred_after p.stopped (length p.tables) c.interval c.rows ≡ b → (course c.table y c.interval).fault ≡ o → FaultlessOver y (called y c p).tables
      go (Some e) o b g = rw (barred_stays e b) all
      go None (Some f) b g = rw (fault_stops f b g) all
      go None None b g = rw (fine_goes_on b g) (all, subst (λ k. (course c.table y k).fault ≡ None) (next_due b).1 g)

  module _ (rd : ℤ → ℕ → ℤ) (w : Work) (stopped : Bool) (r : Result Worked IntervalRefusal) (stops : stopped ≡ p.stopped) (day : w.day ≡ y) (intervals : w.intervals ≡ length p.tables) (is : told r ≡ answering rd c.table stopped w c.interval c.rows) where
    same_bars : barred_after stopped w.intervals c.interval c.rows ≡ barred_after p.stopped (length p.tables) c.interval c.rows
    same_bars = rw (stops, intervals) refl

    record Comes : Type 0 where
      pub after : stopping c.table stopped w c.interval c.rows ≡ (called y c p).stopped
      pub accepted : extended r c.table p.tables ≡ (called y c p).tables

    comes : Comes
    comes = go (barred_after p.stopped (length p.tables) c.interval c.rows) (course c.table y c.interval).fault refl refl
      where
        go : (b : Option IntervalRefusal) (o : Option Fault) → barred_after p.stopped (length p.tables) c.interval c.rows ≡ b → (course c.table y c.interval).fault ≡ o → Comes
        go (Some e) o b g =
            let bars : barred_after stopped w.intervals c.interval c.rows ≡ Some e = same_bars ∙ b in
            let gone : told r ≡ numbered e = is ∙ rw bars refl in
            record { after = rw (barred_stays e b, bars) stops; accepted = rw (barred_stays e b) (extended_not r e gone c.table p.tables) }
        go None (Some f) b g =
            let bars : barred_after stopped w.intervals c.interval c.rows ≡ None = same_bars ∙ b in
            let fault : (course c.table w.day c.interval).fault ≡ Some f = rw day g in
            let gone : told r ≡ numbered (Halted (stop_at w.day c.interval (length (course c.table w.day c.interval).rows) f)) = is ∙ rw (bars, fault) refl in
            record { after = rw (fault_stops f b g, bars, fault) refl; accepted = rw (fault_stops f b g) (extended_not r (Halted (stop_at w.day c.interval (length (course c.table w.day c.interval).rows) f)) gone c.table p.tables) }
        go None None b g =
            let bars : barred_after stopped w.intervals c.interval c.rows ≡ None = same_bars ∙ b in
            let fault : (course c.table w.day c.interval).fault ≡ None = rw day g in
            let gone : told r ≡ fine (worked rd c.table w.day c.interval) = is ∙ rw (bars, fault) refl in
            record { after = rw (fine_goes_on b g, bars, fault) stops; accepted = rw (fine_goes_on b g) (extended_fine r (worked rd c.table w.day c.interval) gone c.table p.tables) }

pub few : (y : ℕ) (cs : List IntervalCall) → length (progress y cs).tables ≤ 96
unfolding progress
few y [] = omega arith
few y (c ∷ cs) = few_next y (progress y cs) c (few y cs)

pub faultless : (y : ℕ) (cs : List IntervalCall) → FaultlessOver y (progress y cs).tables
unfolding progress FaultlessOver
faultless y [] = tt
faultless y (c ∷ cs) = faultless_next y (progress y cs) c (faultless y cs)

-- a new run
pub opened : (y : ℕ) (rd : ℤ → ℕ → ℤ) (w : Work) → WorkedBy (traced y rd []) w → CalledOn y rd [] false w
unfolding progress
opened y rd w by = record { stops = refl; works = by }

-- one call more
pub called_more : (y : ℕ) (rd : ℤ → ℕ → ℤ) (cs : List IntervalCall) (c : IntervalCall) (stopped : Bool) (w v : Work) (r : Result Worked IntervalRefusal) → CalledOn y rd cs stopped w → told r ≡ answering rd c.table stopped w c.interval c.rows → WorkedBy (traced y rd (extended r c.table (progress y cs).tables)) v → CalledOn y rd (c ∷ cs) (stopping c.table stopped w c.interval c.rows) v
unfolding progress
called_more y rd cs c stopped w v r so is by =
    let k = comes y (progress y cs) c rd w stopped r so.stops so.works.day so.works.intervals is in
    record { stops = k.after; works = subst (λ ts. WorkedBy (traced y rd ts) v) k.accepted by }
