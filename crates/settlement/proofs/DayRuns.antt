-- What is worked of a day over one source depends on the source's answers about that day alone.
use Rattle.std.proofs.Common.{◌≡◌, ℕ, zero, suc, ◌+◌, List, ◌++◌, ◌∷◌, [], length, ℤ, None, ◌≤◌, refl, sym, ap, ap₂, ◌∙◌, subst}
use Rattle.terms.specs.Limits.{last_interval}
use Rattle.terms.specs.Sources.{Table}
use Rattle.amounts.specs.declared.row.Amounts.{Amounts}
use Rattle.amounts.specs.Triples.{plus}
use Rattle.amounts.specs.Workings.{amounts_at, charged_shares}
use Rattle.amounts.specs.Tables.{Judged, working}
use Rattle.amounts.specs.Traces.{Trace, amount_over, shares_over, JudgedOver, entities, resources}
use Rattle.intervals.specs.declared.warning.Warning.{Warning}
use Rattle.intervals.specs.Courses.{course}
use Rattle.runs.specs.declared.work.Work.{Work}
use Rattle.runs.specs.Works.{FaultlessOver, WorkedBy}
use Rattle.runs.specs.Sheets.{rows_of, said_of}
use Rattle.runs.proofs.Asking.{complete_over}
use Rattle.accounts.specs.Postings.{less}
use Rattle.accounts.specs.Bills.{BilledBetween}
use Rattle.accounts.specs.Histories.{Latest, Whole, amount_by}
use Rattle.jobs.specs.Days.{reached, repeated, run_over, run_through}
use Rattle.jobs.proofs.Walking.{length_repeated}
use Rattle.settlement.specs.SameDays.{SameDay, SameRun, SameRuns}
use Rattle.settlement.proofs.DayAsked.{course_same, working_same, judged_same}
use Rattle.settlement.proofs.DayWalked.{walks_same}

module _ (y : ℕ) (t u : Table) (same : SameDay y t u) where
  long_same : (n : ℕ) → length (repeated n t) ≡ length (repeated n u)
  long_same n = length_repeated n t ∙ sym (length_repeated n u)

  -- the working of interval n + 1
  next_same : (n : ℕ) (rd : ℤ → ℕ → ℤ) → working t y (suc (length (repeated n t))) rd ≡ working u y (suc (length (repeated n u))) rd
  next_same n rd = working_same y t u same (suc (length (repeated n t))) rd ∙ ap (λ l. working u y (suc l) rd) (long_same n)

  pub amount_same : (rd : ℤ → ℕ → ℤ) (m n q : ℕ) → amount_over rd m y (repeated n t) q ≡ amount_over rd m y (repeated n u) q
  unfolding amount_over repeated
  amount_same rd m zero q = refl
  amount_same rd m (suc n) q = ap₂ plus (amount_same rd m n q) (ap (λ w. amounts_at rd m w q) (next_same n rd))

  pub shares_same : (rd : ℤ → ℕ → ℤ) (m n : ℕ) → shares_over rd m y (repeated n t) ≡ shares_over rd m y (repeated n u)
  unfolding shares_over repeated
  shares_same rd m zero = refl
  shares_same rd m (suc n) = ap₂ ◌+◌ (shares_same rd m n) (ap (charged_shares m) (next_same n rd))

  pub judged_over_same : (m k n : ℕ) → JudgedOver m k y (repeated n t) → JudgedOver m k y (repeated n u)
  unfolding JudgedOver repeated
  judged_over_same m k zero h = tt
  judged_over_same m k (suc n) h = (judged_over_same m k n h.0, subst (λ l. Judged u y (suc l) m k) (long_same n) (judged_same y t u same (suc (length (repeated n t))) m k h.1))

  pub faultless_over_same : (n : ℕ) → FaultlessOver y (repeated n t) → FaultlessOver y (repeated n u)
  unfolding FaultlessOver repeated
  faultless_over_same zero h = tt
  faultless_over_same (suc n) h = (faultless_over_same n h.0, subst (λ l. (course u y (suc l)).fault ≡ None) (long_same n) (ap (λ c. c.fault) (sym (course_same y t u same (suc (length (repeated n t))))) ∙ h.1))

  pub runs_same : SameRuns y t u
  runs_same rd n = record {
    day = refl;
    intervals = long_same n;
    amounts = λ q. amount_same rd resources n q;
    charged = shares_same rd entities n;
    accepted = λ a. record { lawful = a.lawful; judged = judged_over_same entities resources n a.judged };
    faultless = faultless_over_same n;
  }

  -- runs as far as the intervals are worked
  pub through_same : (rd : ℤ → ℕ → ℤ) (ws : List Warning) → SameRun (run_through y rd t ws) (run_through y rd u ws)
  through_same rd ws = subst (λ n. SameRun (run_through y rd t ws) (run_over y rd n u)) ((walks_same y t u same).count ws last_interval) (runs_same rd (reached t y ws last_interval))

module _ (a b : Trace) (same : SameRun a b) where
  rows_same : (n : ℕ) → rows_of n a ≡ rows_of n b
  unfolding rows_of
  rows_same zero = refl
  rows_same (suc n) = ap₂ (λ xs x. xs ++ (x ∷ [])) (rows_same n) (same.amounts n)

  pub said_same : said_of a ≡ said_of b
  said_same = λ j. record { day = same.day j; intervals = same.intervals j; charged = same.charged j; totals = rows_same entities j }

  pub worked_by_same : (w : Work) → WorkedBy a w → WorkedBy b w
  worked_by_same w by = record {
    day = by.day ∙ same.day;
    intervals = by.intervals ∙ same.intervals;
    totals = λ q lt. by.totals q lt ∙ same.amounts q;
    charged = by.charged ∙ same.charged;
    faultless = same.faultless by.faultless;
    accepted = same.accepted by.accepted;
  }

  pub whole_same : (d : ℕ) → Whole d a → Whole d b
  whole_same d w = record { same = sym same.day ∙ w.same; long = subst (λ n. last_interval ≤ n) same.intervals w.long; faultless = same.faultless w.faultless; complete = complete_over b.day b.tables (same.faultless w.faultless); accepted = same.accepted w.accepted }

  -- a bill between the run posted before and the one now
  pub billed_same : (before : Latest) (bills : List Amounts) → BilledBetween before a bills → BilledBetween before b bills
  billed_same before bills h q lt = h q lt ∙ ap (λ z. less z (amount_by before q)) (same.amounts q)
