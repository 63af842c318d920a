-- A job depends on the source's answers about its day alone.
use Rattle.std.proofs.Common.{◌≡◌, ℕ, List, ◌∷◌, ℤ, refl, ap}
use Rattle.terms.specs.Told.{Told, fine, refuse}
use Rattle.terms.specs.Limits.{last_interval}
use Rattle.terms.specs.Sources.{Table}
use Rattle.amounts.specs.declared.row.Amounts.{Amounts}
use Rattle.intervals.specs.declared.warning.Warning.{Warning}
use Rattle.books.specs.Kept.{Kept}
use Rattle.books.specs.Calls.{reserving}
use Rattle.accounts.specs.Slips.{given}
use Rattle.accounts.specs.Histories.{reserves}
use Rattle.jobs.specs.Days.{walked}
use Rattle.jobs.specs.Jobs.{job, job_watched}
use Rattle.settlement.specs.SameDays.{SameDay, SameDone, SameJobs, SameWatched}
use Rattle.settlement.proofs.DayWalked.{walks_same, watched_same}
use Rattle.settlement.proofs.DayRuns.{runs_same, said_same}
use Rattle.settlement.proofs.DayPosted.{posted_same}

module _ (d : ℕ) (t u : Table) (same : SameDay d t u) where
  module _ (rd : ℤ → ℕ → ℤ) (bills : List Amounts) (ws : List Warning) (k : Kept) where
    by_walked : (x : ℕ) (a : Told (Unit {0})) → given d (reserving k d).answer ≡ fine x → (walked u d ws last_interval).told ≡ a → SameDone (job rd t d bills ws k) (job rd u d bills ws k)
    unfolding job
    by_walked x (fine z) e o =
        let w = (walks_same d t u same).walk ws last_interval in
        let r = runs_same d t u same rd last_interval in
        rw (e, w, o) (rw (said_same _ _ r) (record {
          answer = refl;
          kept = refl;
          bills = refl;
          warnings = ap (λ v. v.warnings) w;
          law = λ h l. posted_same _ _ r d _ _ (reserves d (fine d) ∷ h) l;
        }))
    by_walked x (refuse n vs) e o =
        let w = (walks_same d t u same).walk ws last_interval in
        rw (e, w, o) (record { answer = refl; kept = refl; bills = refl; warnings = ap (λ v. v.warnings) w; law = λ h l a. a })

    by_given : (a : Told ℕ) → given d (reserving k d).answer ≡ a → SameDone (job rd t d bills ws k) (job rd u d bills ws k)
    unfolding job
    by_given (fine x) e = by_walked x (walked u d ws last_interval).told e refl
    by_given (refuse n vs) e = rw e (record { answer = refl; kept = refl; bills = refl; warnings = refl; law = λ h l a. a })

  pub jobs_same : SameJobs d t u
  jobs_same rd bills ws k = by_given rd bills ws k (given d (reserving k d).answer) refl

  job_watched_same : {S : Type 0} (tell : S → ℕ → List Warning → S) (ws : List Warning) (k : Kept) (s : S) (a : Told ℕ) → given d (reserving k d).answer ≡ a → job_watched tell t d ws k s ≡ job_watched tell u d ws k s
  unfolding job_watched
  job_watched_same tell ws k s (fine x) e = rw e (watched_same d t u same tell ws s last_interval)
  job_watched_same tell ws k s (refuse n vs) e = rw e refl

  pub told_same : {S : Type 0} (tell : S → ℕ → List Warning → S) → SameWatched d t u tell
  told_same tell = record { intervals = watched_same d t u same tell; job = λ ws k s. job_watched_same tell ws k s (given d (reserving k d).answer) refl }
