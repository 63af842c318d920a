-- The law of accounts is kept by a posting.
use Rattle.std.proofs.Common.{◌≡◌, ℕ, ◌<◌, ◌≤◌, Bool, true, false, List, ◌∷◌, length, take, get_or, Ok, Err, Result, IfOk, Some, None, Option, refl, sym, ap, ◌∙◌, subst, arith, get_or-take}
use Rattle.terms.specs.Told.{Told, fine}
use Rattle.terms.specs.Limits.{last_interval}
use Rattle.amounts.specs.declared.row.Amounts.{Amounts}
use Rattle.amounts.specs.Triples.{none}
use Rattle.amounts.specs.Traces.{Trace, amount, shares, Accepted}
use Rattle.runs.specs.declared.work.Work.{Work}
use Rattle.runs.specs.Works.{WorkedBy, FaultlessOver}
use Rattle.runs.specs.Calls.{RunCalls, progress, trace_of}
use Rattle.runs.specs.Sheets.{Said, said, said_of}
use Rattle.runs.proofs.Asking.{complete_over, judged_over}
use Rattle.runs.proofs.Calling.{faultless}
use Rattle.runs.proofs.Saying.{row_of}
use Rattle.books.specs.Kept.{Kept, entry, put}
use Rattle.books.specs.Laws.{Rising}
use Rattle.books.proofs.Entries.{put_changes}
use Rattle.accounts.specs.declared.refusal.PostRefusal.{PostRefusal}
use Rattle.accounts.specs.declared.refusal.PostRefusal.TheVariants.{NotReserved, OtherDay, TooShort, FewRows}
use Rattle.accounts.specs.Refusals.{numbered, told}
use Rattle.accounts.specs.Postings.{posting, posted_by, misfit, settled, less, billed}
use Rattle.accounts.specs.Histories.{History, Accounts, effect, took, posts, last, SlipOut, Known}
use Rattle.accounts.specs.Bills.{BilledBetween}
use Rattle.accounts.proofs.Billing.{row_billed}
use Rattle.accounts.proofs.Effects.{law_stray, law_settled}
use Rattle.accounts.proofs.Keeping.{lift_law, out_reserved}
use Rattle.accounts.proofs.Wording.{posts as in_words}

-- what a sheet says of its run, whose trace is t
pub record SaidBy (t : Trace) (s : Said) : Type 0 where
  pub day : s.day ≡ t.day
  pub intervals : s.intervals ≡ length t.tables
  pub totals : (q : ℕ) → q < 64 → get_or s.totals q none ≡ amount t q
  pub charged : s.charged ≡ shares t
  pub faultless : FaultlessOver t.day t.tables
  pub accepted : Accepted t

pub said_by : (t : Trace) (w : Work) → WorkedBy t w → SaidBy t (said w)
said_by t w by = record { day = by.day; intervals = by.intervals; totals = by.totals; charged = by.charged; faultless = by.faultless; accepted = by.accepted }

-- the sheet that a run of calls ends in
pub said_by_calls : (r : RunCalls) → SaidBy (trace_of r) (said_of (trace_of r))
said_by_calls r =
    let never = faultless r.day r.calls in
    record {
      day = refl;
      intervals = refl;
      totals = λ q lt. row_of 64 q (trace_of r) lt;
      charged = refl;
      faultless = never;
      accepted = record { lawful = r.lawful; judged = judged_over r.day (progress r.day r.calls).tables never };
    }

-- a sheet that fits
record Fits (d : ℕ) (s : Said) (rows : ℕ) : Type 0 where
  pub day : s.day ≡ d
  pub long : last_interval ≤ s.intervals
  pub room : 64 ≤ rows

fits_by : (d : ℕ) (s : Said) (rows : ℕ) → misfit d s rows ≡ None → Fits d s rows
fits_by d s rows h = record { day = grind arith; long = grind arith; room = grind arith }

pub refused_takes : (d : ℕ) (t : Trace) (bills : List Amounts) (e : PostRefusal) → effect (posts d t bills (numbered e)) ≡ took d
refused_takes d t bills NotReserved = refl
refused_takes d t bills OtherDay = refl
refused_takes d t bills TooShort = refl
refused_takes d t bills FewRows = refl

misfit_known : (d : ℕ) (s : Said) (rows : ℕ) (e : PostRefusal) → misfit d s rows ≡ Some e → Known {X = ℕ} (numbered e)
misfit_known d s rows NotReserved h = absurd (grind arith)
misfit_known d s rows OtherDay h = λ n. omega (arith, n)
misfit_known d s rows TooShort h = λ n. omega (arith, n)
misfit_known d s rows FewRows h = λ n. omega (arith, n)

module _ (k : Kept) (d : ℕ) (s : Said) (bills : List Amounts) where
  posting_not : (entry k d).reserved ≡ false → posting k d s bills ≡ record { answer = Err NotReserved; after = k; bills = bills }
  unfolding posting
  posting_not r = rw r refl

  posting_held : (entry k d).reserved ≡ true → posting k d s bills ≡ posted_by k d s bills (misfit d s (length bills))
  unfolding posting
  posting_held r = rw r refl

  module _ (h : History) (law : Accounts h k) where
    settled_law : (t : Trace) → SaidBy t s → (entry k d).reserved ≡ true → Fits d s (length bills) → Accounts (posts d t (take 64 (billed 64 s.totals (entry k d).amounts bills)) (fine s.charged) ∷ h) (put k (settled d s.totals))
    settled_law t by was f =
        law_settled h k _ d (settled d s.totals) _ t s.charged _ refl law
        (λ q lt. get_or-take 64 _ q none lt ∙ row_billed 64 q s.totals (entry k d).amounts bills f.room lt ∙ ap (λ z. less z (get_or (entry k d).amounts q none)) (by.totals q lt))
        (put_changes k d (settled d s.totals) refl) was refl refl by.totals by.charged
        (record { same = sym by.day ∙ f.day; long = rw (← by.intervals) f.long; faultless = by.faultless; complete = complete_over t.day t.tables by.faultless; accepted = by.accepted })

    pub post_law : Rising k.held → (t : Trace) → SaidBy t s → Accounts (posts d t (take 64 (posting k d s bills).bills) (told (posting k d s bills).answer) ∷ h) (posting k d s bills).after
    post_law rising t by = go (entry k d).reserved refl
      where
        fit : (m : Option PostRefusal) → misfit d s (length bills) ≡ m → (entry k d).reserved ≡ true → Accounts (posts d t (take 64 (posted_by k d s bills m).bills) (told (posted_by k d s bills m).answer) ∷ h) (posted_by k d s bills m).after
        fit (Some e) is r = lift_law k d h _ (refused_takes d t (take 64 bills) e) rising law
        fit None is r = settled_law t by r (fits_by d s (length bills) is)

        go : (r : Bool) → (entry k d).reserved ≡ r → Accounts (posts d t (take 64 (posting k d s bills).bills) (told (posting k d s bills).answer) ∷ h) (posting k d s bills).after
        go false r = subst (λ p. Accounts (posts d t (take 64 p.bills) (told p.answer) ∷ h) p.after) (sym (posting_not r)) (law_stray h k d _ refl law r)
        go true r = subst (λ p. Accounts (posts d t (take 64 p.bills) (told p.answer) ∷ h) p.after) (sym (posting_held r)) (fit (misfit d s (length bills)) refl r)

    pub billed_between : (t : Trace) → SaidBy t s → (c : ℕ) → (posting k d s bills).answer ≡ Ok c → BilledBetween (last h d) t (posting k d s bills).bills
    billed_between t by c is q lt =
        (in_words k d s bills).row c q is lt
        ∙ ap (λ z. less z (get_or (entry k d).amounts q none)) (by.totals q lt)
        ∙ ap (λ z. less (amount t q) z) (law.kept d q lt ∙ law.issued_is d q lt)

    pub post_known : SlipOut h d → Known (told (posting k d s bills).answer)
    post_known is = subst (λ p. Known (told p.answer)) (sym (posting_held (out_reserved k d h law is))) (by (misfit d s (length bills)) refl)
      where
        by : (m : Option PostRefusal) → misfit d s (length bills) ≡ m → Known (told (posted_by k d s bills m).answer)
        by (Some e) m = misfit_known d s (length bills) e m
        by None m = tt

-- the same where the answer, what is kept and the bills are known by equations
module _ (k : Kept) (d : ℕ) (w : Work) (bills : List Amounts) (a : Told ℕ) (a-is : a ≡ told (posting k d (said w) bills).answer) where
  pub post_by : (l : Kept) (after : List Amounts) → l ≡ (posting k d (said w) bills).after → after ≡ (posting k d (said w) bills).bills → Rising k.held → (h : History) (t : Trace) → Accounts h k → WorkedBy t w → Accounts (posts d t (take 64 after) a ∷ h) l
  post_by l after l-is b-is rising h t law by = rw (a-is, l-is, b-is) (post_law k d (said w) bills h law rising t (said_by t w by))

  pub post_known_by : (h : History) → Accounts h k → SlipOut h d → Known a
  post_known_by h law is = rw a-is (post_known k d (said w) bills h law is)

-- the bills of a posting that is accepted
pub between_by : (k : Kept) (d : ℕ) (w : Work) (bills after : List Amounts) (r : Result ℕ PostRefusal) → r ≡ (posting k d (said w) bills).answer → after ≡ (posting k d (said w) bills).bills → (h : History) (t : Trace) → Accounts h k → WorkedBy t w → IfOk r (λ c. BilledBetween (last h d) t after)
between_by k d w bills after (Ok c) is rows h t law by = rw rows (billed_between k d (said w) bills h law t (said_by t w by) c (sym is))
between_by k d w bills after (Err e) is rows h t law by = tt
