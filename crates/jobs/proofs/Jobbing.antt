-- How a job ends.
use Rattle.std.proofs.Common.{◌≡◌, ℕ, false, List, [], ◌∷◌, ◌++◌, take, ℤ, refl, ap, ◌∙◌}
use Rattle.terms.specs.Told.{Told, fine}
use Rattle.terms.specs.Sources.{Table}
use Rattle.amounts.specs.declared.row.Amounts.{Amounts}
use Rattle.amounts.specs.Traces.{Trace}
use Rattle.intervals.specs.declared.warning.Warning.{Warning}
use Rattle.runs.specs.declared.refusal.IntervalRefusal.{IntervalRefusal}
use Rattle.runs.specs.declared.refusal.IntervalRefusal.TheVariants.{Stopped, NotDue, FewRows, Halted}
use Rattle.runs.specs.declared.work.Work.{Work}
use Rattle.runs.specs.Refusals.{numbered as interval_numbered}
use Rattle.runs.specs.Works.{WorkedBy}
use Rattle.runs.specs.Sheets.{said, said_of}
use Rattle.books.specs.declared.refusal.BookRefusal.{BookRefusal}
use Rattle.books.specs.declared.refusal.BookRefusal.TheVariants.{OutOfRange, Reserved, Full, NotReserved}
use Rattle.books.specs.Kept.{Kept}
use Rattle.books.specs.Calls.{reserving, lifting}
use Rattle.books.specs.Refusals.{numbered as book_numbered, told as book_told}
use Rattle.accounts.specs.Refusals.{told as post_told}
use Rattle.accounts.specs.Slips.{given}
use Rattle.accounts.specs.Postings.{posting}
use Rattle.accounts.specs.Histories.{History, Accounts, reserves, withdraws, posts}
use Rattle.jobs.specs.Days.{walked, run_over}
use Rattle.jobs.specs.Jobs.{Done, job}

-- what a job comes to: its answer, what the book keeps after it, the bills and the warnings are those of the definition, and so is the law's history
pub record Comes (j : Done) (k : Kept) (a : Told ℕ) (l : Kept) (bs : List Amounts) (us : List Warning) : Type 0 where
  pub answer : a ≡ j.answer
  pub kept : l ≡ j.kept
  pub bills : bs ≡ j.bills
  pub warnings : us ≡ j.warnings
  pub law : (h : History) → Accounts h k → Accounts (j.calls ++ h) l

module _ (rd : ℤ → ℕ → ℤ) (t : Table) (d : ℕ) (bills : List Amounts) (ws : List Warning) (k m : Kept) (after : m ≡ (reserving k d).after) where
  job_refused : (e : BookRefusal) → book_numbered e ≡ given d (reserving k d).answer → job rd t d bills ws k ≡ record { answer = book_numbered e; kept = (reserving k d).after; bills = bills; warnings = ws; calls = reserves d (book_numbered e) ∷ [] }
  unfolding job
  job_refused OutOfRange e = rw (← e) refl
  job_refused Reserved e = rw (← e) refl
  job_refused Full e = rw (← e) refl
  job_refused NotReserved e = rw (← e) refl

  pub refused : (e : BookRefusal) → book_numbered e ≡ given d (reserving k d).answer → ((h : History) → Accounts h k → Accounts (reserves d (book_numbered e) ∷ h) m) → Comes (job rd t d bills ws k) k (book_numbered e) m bills ws
  refused e so law = let j = job_refused e so in rw j (record { answer = refl; kept = after; bills = refl; warnings = refl; law = law })

  -- the day was reserved, and all intervals were worked
  module _ (w : Work) (l : Kept) (bs : List Amounts) (us : List Warning) (a : Told ℕ) where
    run : Trace
    run = run_over d rd 96 t

    job_posted : fine d ≡ given d (reserving k d).answer → fine tt ≡ (walked t d ws 96).told → job rd t d bills ws k ≡ record {
      answer = post_told (posting (reserving k d).after d (said_of (run_over d rd 96 t)) bills).answer;
      kept = (posting (reserving k d).after d (said_of (run_over d rd 96 t)) bills).after;
      bills = (posting (reserving k d).after d (said_of (run_over d rd 96 t)) bills).bills;
      warnings = (walked t d ws 96).warnings;
      calls = posts d (run_over d rd 96 t) (take 64 (posting (reserving k d).after d (said_of (run_over d rd 96 t)) bills).bills) (post_told (posting (reserving k d).after d (said_of (run_over d rd 96 t)) bills).answer) ∷ reserves d (fine d) ∷ [];
    }
    unfolding job
    job_posted e o = rw (← e, ← o) refl

    pub posted : fine d ≡ given d (reserving k d).answer → fine tt ≡ (walked t d ws 96).told → us ≡ (walked t d ws 96).warnings → said w ≡ said_of (run_over d rd 96 t) → WorkedBy (run_over d rd 96 t) w → a ≡ post_told (posting m d (said w) bills).answer → l ≡ (posting m d (said w) bills).after → bs ≡ (posting m d (said w) bills).bills → ((h : History) → Accounts h k → Accounts (reserves d (fine d) ∷ h) m) → ((h : History) (z : Trace) → Accounts h m → WorkedBy z w → Accounts (posts d z (take 64 bs) a ∷ h) l) → Comes (job rd t d bills ws k) k a l bs us
    posted e o u s by a-is l-is b-is law post =
        let j = job_posted e o in
        let p = ap (λ z. posting z d (said w) bills) after ∙ ap (λ z. posting (reserving k d).after d z bills) s in
        rw j (record {
          answer = a-is ∙ ap (λ z. post_told z.answer) p;
          kept = l-is ∙ ap (λ z. z.after) p;
          bills = b-is ∙ ap (λ z. z.bills) p;
          warnings = u;
          law = λ h accounts. rw (← p) (rw (← a-is, ← b-is) (post (reserves d (fine d) ∷ h) (run_over d rd 96 t) (law h accounts) by));
        })

  -- the day was reserved, and an interval was refused
  job_stopped : (e : IntervalRefusal) → fine d ≡ given d (reserving k d).answer → interval_numbered e ≡ (walked t d ws 96).told → job rd t d bills ws k ≡ record {
    answer = interval_numbered e;
    kept = (lifting (reserving k d).after d false).after;
    bills = bills;
    warnings = (walked t d ws 96).warnings;
    calls = withdraws d (book_told (lifting (reserving k d).after d false).answer) ∷ reserves d (fine d) ∷ [];
  }
  unfolding job
  job_stopped Stopped e o = rw (← e, ← o) refl
  job_stopped NotDue e o = rw (← e, ← o) refl
  job_stopped FewRows e o = rw (← e, ← o) refl
  job_stopped (Halted s) e o = rw (← e, ← o) refl

  pub stopped : (e : IntervalRefusal) (l : Kept) (us : List Warning) → fine d ≡ given d (reserving k d).answer → interval_numbered e ≡ (walked t d ws 96).told → us ≡ (walked t d ws 96).warnings → l ≡ (lifting m d false).after → ((h : History) → Accounts h k → Accounts (reserves d (fine d) ∷ h) m) → ((h : History) → Accounts h m → Accounts (withdraws d (book_told (lifting m d false).answer) ∷ h) l) → Comes (job rd t d bills ws k) k (interval_numbered e) l bills us
  stopped e l us g o u l-is law withdrawn =
      let j = job_stopped e g o in
      let p = ap (λ z. lifting z d false) after in
      rw j (record {
        answer = refl;
        kept = l-is ∙ ap (λ z. z.after) p;
        bills = refl;
        warnings = u;
        law = λ h accounts. rw (← p) (withdrawn (reserves d (fine d) ∷ h) (law h accounts));
      })
