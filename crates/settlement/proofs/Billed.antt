-- What the posting of a file bills, over any table that answers as the file does about its day.
use Rattle.std.proofs.Common.{◌≡◌, ◌≢◌, ℕ, ◌+◌, ◌<◌, ◌≤◌, Bool, true, false, List, length, set, get_or, ℤ, Ok, Err, Result, refl, sym, ap, ◌∙◌, subst, arith, get_or-set_same, get_or-set_other, below_more}
use Rattle.std.proofs.lemmas.List.{ext_get_or}
use Rattle.terms.specs.Told.{fine}
use Rattle.terms.specs.Limits.{last_day}
use Rattle.terms.specs.Sources.{Table}
use Rattle.rounding.specs.Rounds.{half_away}
use Rattle.amounts.specs.declared.row.Amounts.{Amounts}
use Rattle.amounts.specs.Traces.{entities}
use Rattle.amounts.specs.Triples.{none}
use Rattle.intervals.specs.declared.warning.Warning.{Warning}
use Rattle.books.specs.declared.refusal.BookRefusal.{BookRefusal}
use Rattle.books.specs.declared.refusal.BookRefusal.TheVariants.{OutOfRange, Reserved, Full, NotReserved}
use Rattle.books.specs.Kept.{Kept, entry}
use Rattle.books.specs.Calls.{reserving}
use Rattle.jobs.specs.declared.refusal.JobRefusal.{JobRefusal}
use Rattle.jobs.specs.declared.refusal.JobRefusal.TheVariants.{Reservation, Interval, Posting}
use Rattle.jobs.specs.Refusals.{numbered}
use Rattle.runs.specs.declared.refusal.IntervalRefusal.TheVariants.{Stopped, NotDue, FewRows, Halted}
use Rattle.accounts.specs.declared.refusal.PostRefusal.TheVariants.{NotReserved as NoReservation, OtherDay, TooShort, FewRows as FewBills}
use Rattle.jobs.specs.Jobs.{job}
use Rattle.settlement.specs.declared.dayfile.DayFile.{DayFile}
use Rattle.settlement.specs.declared.bills.Before.{Before}
use Rattle.settlement.specs.SameDays.{SameDay, SameDone}
use Rattle.settlement.specs.Tables.{chosen, table_of}
use Rattle.settlement.specs.Postings.{no_bills, job_of, before_of, bills_by, bills_of}
use Rattle.settlement.proofs.DayTables.{filled_same}
use Rattle.settlement.proofs.DayJobs.{jobs_same}

-- tables that answer alike do so filled or not
pub chosen_same : (b : Bool) (y : ℕ) (t u : Table) → SameDay y t u → SameDay y (chosen b t) (chosen b u)
chosen_same true y t u s = filled_same y t u s
chosen_same false y t u s = s

-- a day that is reserved is one
pub reserved_within : (k : Kept) (d : ℕ) → (reserving k d).answer ≡ Ok tt → d ≤ last_day
unfolding reserving
reserved_within k d h = grind arith

module _ (rd : ℤ → ℕ → ℤ) (t : Table) (d : ℕ) (bills : List Amounts) (ws : List Warning) (k : Kept) where
  not_given : (e : BookRefusal) (c : ℕ) → (reserving k d).answer ≡ Err e → fine c ≡ (job rd t d bills ws k).answer → ⊥
  unfolding job
  not_given OutOfRange c is h = (let f = rw is at h in cc)
  not_given Reserved c is h = (let f = rw is at h in cc)
  not_given Full c is h = (let f = rw is at h in cc)
  not_given NotReserved c is h = (let f = rw is at h in cc)

  -- and so is the day of a job that is posted
  posted_within : (c : ℕ) → fine c ≡ (job rd t d bills ws k).answer → d ≤ last_day
  posted_within c h = go (reserving k d).answer refl
    where
      go : (r : Result (Unit {0}) BookRefusal) → (reserving k d).answer ≡ r → d ≤ last_day
      go (Ok x) is = reserved_within k d is
      go (Err e) is = absurd (not_given e c is h)

-- a refusal bills nothing
refused_alike : (e : JobRefusal) (x : Before) (rows : List Amounts) → numbered e ≡ bills_by (numbered e) x rows
refused_alike (Reservation OutOfRange) x rows = refl
refused_alike (Reservation Reserved) x rows = refl
refused_alike (Reservation Full) x rows = refl
refused_alike (Reservation NotReserved) x rows = refl
refused_alike (Interval Stopped) x rows = refl
refused_alike (Interval NotDue) x rows = refl
refused_alike (Interval FewRows) x rows = refl
refused_alike (Interval (Halted s)) x rows = refl
refused_alike (Posting NoReservation) x rows = refl
refused_alike (Posting OtherDay) x rows = refl
refused_alike (Posting TooShort) x rows = refl
refused_alike (Posting FewBills) x rows = refl

module _ (f : DayFile) (t : Table) (same : SameDay f.day t (table_of f)) (ws : List Warning) (k : Kept) where
  pub on_file : SameDone (job half_away t f.day no_bills ws k) (job_of f ws k)
  on_file = jobs_same f.day t (table_of f) same half_away no_bills ws k

  pub bills_posted : (c : ℕ) (x : Before) (rows : List Amounts) → fine c ≡ (job half_away t f.day no_bills ws k).answer → (f.day ≤ last_day → x ≡ before_of (entry k f.day)) → rows ≡ (job half_away t f.day no_bills ws k).bills → fine (record { charged = c; before = x; rows = rows }) ≡ bills_of f ws k
  bills_posted c x rows a before b =
      let s = on_file in
      let is : x ≡ before_of (entry k f.day) = before (posted_within half_away t f.day no_bills ws k c a) in
      ap (λ z. fine (record { charged = c; before = z; rows = rows })) is
      ∙ ap (λ z. bills_by (fine c) (before_of (entry k f.day)) z) (b ∙ s.bills)
      ∙ ap (λ z. bills_by z (before_of (entry k f.day)) (job_of f ws k).bills) (a ∙ s.answer)

  pub bills_refused : (e : JobRefusal) → numbered e ≡ (job half_away t f.day no_bills ws k).answer → numbered e ≡ bills_of f ws k
  bills_refused e h = refused_alike e (before_of (entry k f.day)) (job_of f ws k).bills ∙ ap (λ z. bills_by z (before_of (entry k f.day)) (job_of f ws k).bills) (h ∙ on_file.answer)

-- one row more is read
pub row_more : (xs ys : List Amounts) (n : ℕ) (x : Amounts) → n < length xs → ((q : ℕ) → q < n → get_or xs q none ≡ get_or ys q none) → x ≡ get_or ys n none → (q : ℕ) → q < n + 1 → get_or (set xs n x) q none ≡ get_or ys q none
row_more xs ys n x within before is =
    below_more (λ q. get_or (set xs n x) q none ≡ get_or ys q none) n
    (λ q lt. let ne : q ≢ n = λ e. omega arith in get_or-set_other xs n q x none ne ∙ before q lt)
    (get_or-set_same xs n x none within ∙ is)

-- what is read of each entity is what the book has of the day
pub before_is : (k : Kept) (d : ℕ) (billed : Bool) (xs : List Amounts) → length xs ≡ entities → length (entry k d).amounts ≡ entities → ((q : ℕ) → q < entities → get_or xs q none ≡ get_or (entry k d).amounts q none) → billed ≡ (entry k d).billed → (let x : Before = record { billed = billed; amounts = xs } in x ≡ before_of (entry k d))
before_is k d billed xs long old each is =
    ap (λ z. record { billed = z; amounts = xs }) is
    ∙ ap (λ z. record { billed = (entry k d).billed; amounts = z }) (ext_get_or none xs (entry k d).amounts (long ∙ sym old) (λ q lt. each q (subst (λ n. q < n) long lt)))
