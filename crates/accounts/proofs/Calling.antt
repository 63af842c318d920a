-- The law of accounts over whole lists of calls.
use Rattle.std.proofs.Common.{ℕ, false, List, [], ◌∷◌, ◌||◌, nat_lt, length, Some, None, Option}
use Rattle.std.proofs.lemmas.Bool.{cond_both}
use Rattle.terms.specs.Limits.{last_day}
use Rattle.amounts.specs.declared.row.Amounts.{Amounts}
use Rattle.runs.specs.Sheets.{Said, said_of}
use Rattle.runs.specs.Calls.{trace_of}
use Rattle.books.specs.Kept.{Kept, entry, holds}
use Rattle.books.specs.Calls.{Done, reserving, lifting}
use Rattle.books.specs.Laws.{Rising}
use Rattle.books.specs.Lists.{new_kept}
use Rattle.books.proofs.Entries.{put_rises}
use Rattle.books.proofs.Sounds.{cut_rises}
use Rattle.accounts.specs.declared.refusal.PostRefusal.{PostRefusal}
use Rattle.accounts.specs.Postings.{Posted, posting, posted_by, misfit}
use Rattle.accounts.specs.Histories.{History, Accounts}
use Rattle.accounts.specs.Calls.{Call, asks, returns, hands, event, after, kept_after, history_of}
use Rattle.accounts.proofs.Effects.{law_new}
use Rattle.accounts.proofs.Keeping.{reserve_law, withdraw_law}
use Rattle.accounts.proofs.Posts.{said_by_calls, post_law}

-- held days ascend after each call
reserving_rises : (k : Kept) (d : ℕ) → Rising k.held → Rising (reserving k d).after.held
unfolding reserving
reserving_rises k d r =
    cond_both (nat_lt last_day d) _ _ (λ (x : Done). Rising x.after.held) (λ t. r)
    (λ f. cond_both (entry k d).reserved _ _ (λ (x : Done). Rising x.after.held) (λ t. r)
    (λ f'. cond_both (holds k d || nat_lt (length k.held) k.places) _ _ (λ (x : Done). Rising x.after.held) (λ t. put_rises _ k.held r) (λ f''. r)))

lifting_rises : (k : Kept) (d : ℕ) → Rising k.held → Rising (lifting k d false).after.held
unfolding lifting
lifting_rises k d r =
    cond_both (nat_lt last_day d) _ _ (λ (x : Done). Rising x.after.held) (λ t. r)
    (λ f. cond_both (entry k d).reserved _ _ (λ (x : Done). Rising x.after.held)
    (λ t. cond_both (entry k d).billed _ _ (λ (x : Done). Rising x.after.held) (λ t'. put_rises _ k.held r) (λ f'. cut_rises d k.held r))
    (λ f'. r))

posted_rises : (k : Kept) (d : ℕ) (s : Said) (bills : List Amounts) (m : Option PostRefusal) → Rising k.held → Rising (posted_by k d s bills m).after.held
posted_rises k d s bills (Some e) r = lifting_rises k d r
posted_rises k d s bills None r = put_rises _ k.held r

posting_rises : (k : Kept) (d : ℕ) (s : Said) (bills : List Amounts) → Rising k.held → Rising (posting k d s bills).after.held
unfolding posting
posting_rises k d s bills r = cond_both (entry k d).reserved _ _ (λ (x : Posted). Rising x.after.held) (λ t. posted_rises k d s bills (misfit d s (length bills)) r) (λ f. r)

call_rises : (k : Kept) (c : Call) → Rising k.held → Rising (after k c).held
call_rises k (asks d) r = reserving_rises k d r
call_rises k (returns d) r = lifting_rises k d r
call_rises k (hands d x bills) r = posting_rises k d (said_of (trace_of x)) bills r

calls_rise : (k : Kept) (cs : List Call) → Rising k.held → Rising (kept_after k cs).held
unfolding kept_after
calls_rise k [] r = r
calls_rise k (c ∷ cs) r = call_rises (kept_after k cs) c (calls_rise k cs r)

pub call_law : (k : Kept) (c : Call) (h : History) → Rising k.held → Accounts h k → Accounts (event k c ∷ h) (after k c)
call_law k (asks d) h r law = reserve_law k d h law
call_law k (returns d) h r law = withdraw_law k d h r law
call_law k (hands d x bills) h r law = post_law k d (said_of (trace_of x)) bills h law r (trace_of x) (said_by_calls x)

-- whatever is called on a new book
pub calls_law : (n : ℕ) (cs : List Call) → Accounts (history_of (new_kept n) cs) (kept_after (new_kept n) cs)
unfolding history_of kept_after
calls_law n [] = law_new n
calls_law n (c ∷ cs) = call_law (kept_after (new_kept n) cs) c (history_of (new_kept n) cs) (calls_rise (new_kept n) cs tt) (calls_law n cs)
