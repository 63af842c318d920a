-- The law of accounts is kept by each thing that a call can do.
use Rattle.std.proofs.Common.{◌≡◌, ℕ, ◌<◌, ◌≤◌, true, false, cond, List, [], ◌∷◌, get_or, inl, inr, refl, sym, ap, ◌∙◌, subst, arith}
use Rattle.std.proofs.lemmas.Bool.{cases_eq}
use Rattle.std.proofs.lemmas.Bool.Decides.{nat_tests}
use Rattle.terms.specs.Limits.{last_day}
use Rattle.amounts.specs.declared.row.Amounts.{Amounts}
use Rattle.amounts.specs.Triples.{none, plus, net}
use Rattle.amounts.specs.Traces.{Trace, amount, shares}
use Rattle.amounts.proofs.Sums.{sum_same, sum_none}
use Rattle.amounts.proofs.Traced.{amounts_bound}
use Rattle.books.specs.declared.place.Place.{Place}
use Rattle.books.specs.Kept.{Kept, entry}
use Rattle.books.specs.Calls.{reading}
use Rattle.books.specs.Laws.{Changed}
use Rattle.books.specs.Lists.{new_kept}
use Rattle.books.proofs.Sounds.{zeros_none}
use Rattle.accounts.specs.Postings.{less}
use Rattle.accounts.proofs.Billing.{plus_less}
use Rattle.accounts.specs.Histories.{Event, History, Accounts, run, Whole, WholeBy, effect, nothing, gave, took, settled, issued, last, answered, out, reads_reserved, amount_by, shares_by, is_run}

-- the count of slips out, by what reading answers and by what is kept
module _ (k : Kept) (d q n : ℕ) (few : q < 64) where
  read_out : ((entry k d).reserved ≡ true → d ≤ last_day) → n ≡ cond (entry k d).reserved 1 0 → n ≡ cond (reads_reserved (reading k d q)) 1 0
  unfolding reading
  read_out within e = grind (arith, nat_tests)

  kept_out : ((entry k d).reserved ≡ true → d ≤ last_day) → n ≡ cond (reads_reserved (reading k d q)) 1 0 → n ≡ cond (entry k d).reserved 1 0
  unfolding reading
  kept_out within e = grind (arith, nat_tests)

pub out_by_kept : (h : History) (k : Kept) → Accounts h k → (d : ℕ) → out h d ≡ cond (entry k d).reserved 1 0
out_by_kept h k law d = kept_out k d 0 (out h d) (omega arith) (law.within d) (law.slip_out d 0 (omega arith))

-- a book that holds no day
pub law_new : (n : ℕ) → Accounts [] (new_kept n)
law_new n = record {
  issued_is = λ d q lt. refl;
  bounded = λ d. rw (sum_none 64) (omega arith);
  answered_is = λ d. refl;
  slip_out = λ d q lt. read_out (new_kept n) d q 0 lt (λ r. cc) refl;
  whole = λ d. tt;
  kept = λ d q lt. zeros_none q;
  marked = λ d. refl;
  within = λ d r. cc;
}

-- a call that did nothing
pub law_nothing : (h : History) (k : Kept) (e : Event) → effect e ≡ nothing → Accounts h k → Accounts (e ∷ h) k
law_nothing h k e p law = record {
  issued_is = λ d q lt. rw p (law.issued_is d q lt);
  bounded = λ d. rw p (law.bounded d);
  answered_is = λ d. rw p (law.answered_is d);
  slip_out = λ d q lt. rw p (law.slip_out d q lt);
  whole = λ d. rw p (law.whole d);
  kept = λ d q lt. rw p (law.kept d q lt);
  marked = λ d. rw p (law.marked d);
  within = law.within;
}

module _ (h : History) (k l : Kept) (t : ℕ) (x : Place) (e : Event) (law : Accounts h k) (ch : Changed k t x l) where
  -- no day is reserved that cannot be read
  within_next : (x.reserved ≡ true → t ≤ last_day) → (d : ℕ) → (entry l d).reserved ≡ true → d ≤ last_day
  within_next here d r =
      elim (cases_eq d t) [
        | inl is ↦ rw is (here (sym (ap (λ s. s.reserved) ch.there) ∙ (rw is at r)))
        | inr ne ↦ law.within d (sym (ap (λ s. s.reserved) (ch.elsewhere d ne)) ∙ r)
      ]

  not_reserved : x.reserved ≡ false → x.reserved ≡ true → t ≤ last_day
  not_reserved ends r = cc

  -- a day was reserved
  pub law_gave : effect e ≡ gave t → t ≤ last_day → (entry k t).reserved ≡ false → x.reserved ≡ true → x.billed ≡ (entry k t).billed → x.amounts ≡ (entry k t).amounts → Accounts (e ∷ h) l
  law_gave p inside was reserved billed amounts = record {
    issued_is = λ d q lt. rw p (law.issued_is d q lt);
    bounded = λ d. rw p (law.bounded d);
    answered_is = λ d. rw p (law.answered_is d);
    slip_out = λ d q lt. read_out l d q (out (e ∷ h) d) lt (within_next (λ r. inside) d) (let a = out_by_kept h k law d in let b = ch.there in let n = ch.elsewhere d in rw p (grind arith));
    whole = λ d. rw p (law.whole d);
    kept = λ d q lt. let a = law.kept d q lt in let b = ch.there in let n = ch.elsewhere d in rw p (grind arith);
    marked = λ d. let a = law.marked d in let b = ch.there in let n = ch.elsewhere d in rw p (grind arith);
    within = within_next (λ r. inside);
  }

  -- a slip was taken and nothing was billed
  pub law_took : effect e ≡ took t → (entry k t).reserved ≡ true → x.reserved ≡ false → x.billed ≡ is_run (last h t) → ((q : ℕ) → q < 64 → get_or x.amounts q none ≡ issued h t q) → Accounts (e ∷ h) l
  law_took p was ends billed amounts = record {
    issued_is = λ d q lt. rw p (law.issued_is d q lt);
    bounded = λ d. rw p (law.bounded d);
    answered_is = λ d. rw p (law.answered_is d);
    slip_out = λ d q lt. read_out l d q (out (e ∷ h) d) lt (within_next (not_reserved ends) d) (let a = out_by_kept h k law d in let b = ch.there in let n = ch.elsewhere d in rw p (grind arith));
    whole = λ d. rw p (law.whole d);
    kept = λ d q lt. let a = law.kept d q lt in let s = amounts q lt in let b = ch.there in let n = ch.elsewhere d in rw p (grind arith);
    marked = λ d. let a = law.marked d in let b = ch.there in let n = ch.elsewhere d in rw p (grind arith);
    within = within_next (not_reserved ends);
  }

-- a slip was taken of which the book knows nothing
pub law_stray : (h : History) (k : Kept) (t : ℕ) (e : Event) → effect e ≡ took t → Accounts h k → (entry k t).reserved ≡ false → Accounts (e ∷ h) k
law_stray h k t e p law was = record {
  issued_is = λ d q lt. rw p (law.issued_is d q lt);
  bounded = λ d. rw p (law.bounded d);
  answered_is = λ d. rw p (law.answered_is d);
  slip_out = λ d q lt. read_out k d q (out (e ∷ h) d) lt (law.within d) (let a = out_by_kept h k law d in let o = out_by_kept h k law t in rw p (grind arith));
  whole = λ d. rw p (law.whole d);
  kept = λ d q lt. rw p (law.kept d q lt);
  marked = λ d. rw p (law.marked d);
  within = law.within;
}

-- a sheet was posted: t is the trace of its run
module _ (h : History) (k l : Kept) (d : ℕ) (x : Place) (e : Event) (t : Trace) (c : ℕ) (bills : List Amounts) (p : effect e ≡ settled d t c bills) (law : Accounts h k) where
  issued_there : (b q : ℕ) → (b ≡ d → ⊥) → issued (e ∷ h) b q ≡ issued h b q
  issued_there b q ne = rw p (grind arith)

  last_here : last (e ∷ h) d ≡ run t
  last_here = rw p (grind arith)

  last_there : (b : ℕ) → (b ≡ d → ⊥) → last (e ∷ h) b ≡ last h b
  last_there b ne = rw p (grind arith)

  answered_here : answered (e ∷ h) d ≡ c
  answered_here = rw p (grind arith)

  answered_there : (b : ℕ) → (b ≡ d → ⊥) → answered (e ∷ h) b ≡ answered h b
  answered_there b ne = rw p (grind arith)

  module _ (rows : (q : ℕ) → q < 64 → get_or bills q none ≡ less (amount t q) (get_or (entry k d).amounts q none)) where
    issued_here : (q : ℕ) → q < 64 → issued (e ∷ h) d q ≡ amount t q
    issued_here q lt =
        let s : issued (e ∷ h) d q ≡ plus (issued h d q) (get_or bills q none) = rw p (grind arith) in
        s ∙ ap (λ z. plus (issued h d q) z) (rows q lt ∙ ap (λ z. less (amount t q) z) (law.kept d q lt)) ∙ plus_less (issued h d q) (amount t q)

    module _ (ch : Changed k d x l) (was : (entry k d).reserved ≡ true) (ends : x.reserved ≡ false) (billed : x.billed ≡ true) (amounts : (q : ℕ) → q < 64 → get_or x.amounts q none ≡ amount t q) (charged : c ≡ shares t) (whole : Whole d t) where
      pub law_settled : Accounts (e ∷ h) l
      law_settled = record {
        issued_is = λ b q lt. elim (cases_eq b d) [
          | inl is ↦ rw is (issued_here q lt ∙ ap (λ z. amount_by z q) (sym last_here))
          | inr ne ↦ issued_there b q ne ∙ law.issued_is b q lt ∙ ap (λ z. amount_by z q) (sym (last_there b ne))
        ];
        bounded = λ b. elim (cases_eq b d) [
          | inl is ↦ rw (is, sum_same 64 (λ q. net (issued (e ∷ h) d q)) (λ q. net (amount t q)) (λ q lt. ap net (issued_here q lt)), answered_here, charged) (amounts_bound t whole.accepted)
          | inr ne ↦ rw (sum_same 64 (λ q. net (issued (e ∷ h) b q)) (λ q. net (issued h b q)) (λ q lt. ap net (issued_there b q ne)), answered_there b ne) (law.bounded b)
        ];
        answered_is = λ b. elim (cases_eq b d) [
          | inl is ↦ rw is (answered_here ∙ charged ∙ ap shares_by (sym last_here))
          | inr ne ↦ answered_there b ne ∙ law.answered_is b ∙ ap shares_by (sym (last_there b ne))
        ];
        slip_out = λ b q lt. read_out l b q (out (e ∷ h) b) lt (within_next h k l d x e law ch (λ r. cc) b) (let a = out_by_kept h k law b in let y = ch.there in let n = ch.elsewhere b in rw p (grind arith));
        whole = λ b. elim (cases_eq b d) [
          | inl is ↦ subst (λ z. WholeBy z (last (e ∷ h) z)) (sym is) (subst (λ z. WholeBy d z) (sym last_here) whole)
          | inr ne ↦ subst (λ z. WholeBy b z) (sym (last_there b ne)) (law.whole b)
        ];
        kept = λ b q lt. elim (cases_eq b d) [
          | inl is ↦ rw is (ap (λ s. get_or s.amounts q none) ch.there ∙ amounts q lt ∙ sym (issued_here q lt))
          | inr ne ↦ ap (λ s. get_or s.amounts q none) (ch.elsewhere b ne) ∙ law.kept b q lt ∙ sym (issued_there b q ne)
        ];
        marked = λ b. elim (cases_eq b d) [
          | inl is ↦ rw is (ap (λ s. s.billed) ch.there ∙ billed ∙ ap is_run (sym last_here))
          | inr ne ↦ ap (λ s. s.billed) (ch.elsewhere b ne) ∙ law.marked b ∙ ap is_run (sym (last_there b ne))
        ];
        within = within_next h k l d x e law ch (λ r. cc);
      }
