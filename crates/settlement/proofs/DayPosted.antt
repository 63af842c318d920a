-- The law of accounts asks of a posted run no more than what it comes to.
use Rattle.std.proofs.Common.{◌≡◌, ℕ, Bool, true, false, cond, List, ◌∷◌, ◌==◌, refl, ◌∙◌}
use Rattle.terms.specs.Told.{Told, fine, refuse}
use Rattle.amounts.specs.declared.row.Amounts.{Amounts}
use Rattle.amounts.specs.Traces.{Trace}
use Rattle.books.specs.Kept.{Kept}
use Rattle.accounts.specs.Histories.{History, Latest, run, posts, Accounts, WholeBy, amount_by, shares_by, is_run}
use Rattle.settlement.specs.SameDays.{SameRun}
use Rattle.settlement.proofs.DayRuns.{whole_same}

module _ (a b : Trace) (same : SameRun a b) where
  amount_last : (z : Bool) (l : Latest) (q : ℕ) → amount_by (cond z (run a) l) q ≡ amount_by (cond z (run b) l) q
  amount_last true l q = same.amounts q
  amount_last false l q = refl

  shares_last : (z : Bool) (l : Latest) → shares_by (cond z (run a) l) ≡ shares_by (cond z (run b) l)
  shares_last true l = same.charged
  shares_last false l = refl

  run_last : (z : Bool) (l : Latest) → is_run (cond z (run a) l) ≡ is_run (cond z (run b) l)
  run_last true l = refl
  run_last false l = refl

  whole_last : (z : Bool) (l : Latest) (d : ℕ) → WholeBy d (cond z (run a) l) → WholeBy d (cond z (run b) l)
  whole_last true l d w = whole_same a b same d w
  whole_last false l d w = w

  pub posted_same : (d : ℕ) (bills : List Amounts) (x : Told ℕ) (h : History) (k : Kept) → Accounts (posts d a bills x ∷ h) k → Accounts (posts d b bills x ∷ h) k
  posted_same d bills (refuse n vs) h k law = record {
    issued_is = law.issued_is;
    bounded = law.bounded;
    answered_is = law.answered_is;
    slip_out = law.slip_out;
    whole = law.whole;
    kept = law.kept;
    marked = law.marked;
    within = law.within;
  }
  posted_same d bills (fine c) h k law = record {
    issued_is = λ e q lt. law.issued_is e q lt ∙ amount_last (e == d) _ q;
    bounded = law.bounded;
    answered_is = λ e. law.answered_is e ∙ shares_last (e == d) _;
    slip_out = law.slip_out;
    whole = λ e. whole_last (e == d) _ e (law.whole e);
    kept = law.kept;
    marked = λ e. law.marked e ∙ run_last (e == d) _;
    within = law.within;
  }
