-- The law of accounts is kept by each call, over the definitions that the contracts name.
use Rattle.std.proofs.Common.{◌≡◌, ℕ, ◌≤◌, Bool, true, false, ◌∷◌, Ok, Err, Result, IfOk, refl, sym, ◌∙◌, subst, arith}
use Rattle.std.proofs.lemmas.Bool.Decides.{nat_tests}
use Rattle.terms.specs.Told.{Told, fine}
use Rattle.terms.specs.Limits.{last_day}
use Rattle.amounts.specs.Triples.{none}
use Rattle.books.specs.declared.refusal.BookRefusal.{BookRefusal}
use Rattle.books.specs.declared.refusal.BookRefusal.TheVariants.{OutOfRange, Reserved, Full, NotReserved}
use Rattle.books.specs.Refusals.{numbered, told}
use Rattle.books.specs.Places.{blank, marked}
use Rattle.books.specs.Kept.{Kept, entry, put, cut}
use Rattle.books.specs.Calls.{reserving, lifting}
use Rattle.books.specs.Laws.{Rising}
use Rattle.books.proofs.Entries.{entry_day, put_changes, cut_changes}
use Rattle.books.proofs.Sounds.{zeros_none}
use Rattle.accounts.specs.declared.slip.Slip.{Slip}
use Rattle.accounts.specs.Slips.{told as slip_told, given}
use Rattle.accounts.specs.Histories.{Event, History, Accounts, Latest, never, run, effect, nothing, took, reserves, withdraws, last, amount_by, is_run, SlipOut, Known}
use Rattle.accounts.proofs.Effects.{out_by_kept, law_nothing, law_gave, law_took, law_stray}

-- a reservation that is accepted
pub record Given (k : Kept) (d : ℕ) : Type 0 where
  pub within : d ≤ last_day
  pub was : (entry k d).reserved ≡ false
  pub after : (reserving k d).after ≡ put k (marked (entry k d) true (entry k d).billed)

pub given_by : (k : Kept) (d : ℕ) → (reserving k d).answer ≡ Ok tt → Given k d
unfolding reserving
given_by k d h = record { within = grind (arith, nat_tests); was = grind arith; after = grind arith }

not_given : (k : Kept) (d : ℕ) (e : BookRefusal) → (reserving k d).answer ≡ Err e → (reserving k d).after ≡ k
unfolding reserving
not_given k d e h = grind arith

pub reserves_nothing : (d : ℕ) (e : BookRefusal) → effect (reserves d (numbered e)) ≡ nothing
reserves_nothing d OutOfRange = refl
reserves_nothing d Reserved = refl
reserves_nothing d Full = refl
reserves_nothing d NotReserved = refl

module _ (k : Kept) (d : ℕ) (h : History) (law : Accounts h k) where
  pub reserve_law : Accounts (reserves d (given d (reserving k d).answer) ∷ h) (reserving k d).after
  reserve_law = go (reserving k d).answer refl
    where
      go : (r : Result (Unit {0}) BookRefusal) → (reserving k d).answer ≡ r → Accounts (reserves d (given d r) ∷ h) (reserving k d).after
      go (Ok x) is =
          let g = given_by k d is in
          subst (λ l. Accounts (reserves d (fine d) ∷ h) l) (sym g.after)
          (law_gave h k _ d (marked (entry k d) true (entry k d).billed) (reserves d (fine d)) law (put_changes k d _ (entry_day d k.held)) refl g.within g.was refl refl refl)
      go (Err e) is = subst (λ l. Accounts (reserves d (numbered e) ∷ h) l) (sym (not_given k d e is)) (law_nothing h k (reserves d (numbered e)) (reserves_nothing d e) law)

  -- the slip that a reservation gives is the only one of its day
  pub reserve_out : (reserving k d).answer ≡ Ok tt → SlipOut (reserves d (fine d) ∷ h) d
  reserve_out is = let w = (given_by k d is).was in let a = out_by_kept h k law d in grind arith

no_run : (l : Latest) (q : ℕ) → is_run l ≡ false → amount_by l q ≡ none
no_run never q e = refl
no_run (run t) q e = cc

-- a lifted day, by what it was
module _ (k : Kept) (d : ℕ) where
  lifted_not : (entry k d).reserved ≡ false → (lifting k d false).after ≡ k
  unfolding lifting
  lifted_not r = grind arith

  lifted_billed : d ≤ last_day → (entry k d).reserved ≡ true → (entry k d).billed ≡ true → (lifting k d false).after ≡ put k (marked (entry k d) false true)
  unfolding lifting
  lifted_billed l r b = grind arith

  lifted_cut : d ≤ last_day → (entry k d).reserved ≡ true → (entry k d).billed ≡ false → (lifting k d false).after ≡ cut k d
  unfolding lifting
  lifted_cut l r b = grind arith

-- a slip was taken and the day lifted as unbilled, where it was reserved
module _ (k : Kept) (d : ℕ) (h : History) (e : Event) (takes : effect e ≡ took d) (rising : Rising k.held) (law : Accounts h k) where
  pub lift_law : Accounts (e ∷ h) (lifting k d false).after
  lift_law = go (entry k d).reserved (entry k d).billed refl refl
    where
      go : (r b : Bool) → (entry k d).reserved ≡ r → (entry k d).billed ≡ b → Accounts (e ∷ h) (lifting k d false).after
      go false b r-is b-is = subst (λ l. Accounts (e ∷ h) l) (sym (lifted_not k d r-is)) (law_stray h k d e takes law r-is)
      go true true r-is b-is =
          subst (λ l. Accounts (e ∷ h) l) (sym (lifted_billed k d (law.within d r-is) r-is b-is))
          (law_took h k _ d (marked (entry k d) false true) e law (put_changes k d _ (entry_day d k.held)) takes r-is refl (sym b-is ∙ law.marked d) (λ q lt. law.kept d q lt))
      go true false r-is b-is =
          subst (λ l. Accounts (e ∷ h) l) (sym (lifted_cut k d (law.within d r-is) r-is b-is))
          (law_took h k _ d (blank d) e law (cut_changes k d rising) takes r-is refl (sym b-is ∙ law.marked d)
          (λ q lt. zeros_none q ∙ sym (law.issued_is d q lt ∙ no_run (last h d) q (sym (law.marked d) ∙ b-is))))

pub withdraw_law : (k : Kept) (d : ℕ) (h : History) → Rising k.held → Accounts h k → Accounts (withdraws d (told (lifting k d false).answer) ∷ h) (lifting k d false).after
withdraw_law k d h rising law = lift_law k d h _ refl rising law

-- a slip that is out is of a reserved day
pub out_reserved : (k : Kept) (d : ℕ) (h : History) → Accounts h k → SlipOut h d → (entry k d).reserved ≡ true
out_reserved k d h law is = let a = out_by_kept h k law d in grind arith

pub withdraw_known : (k : Kept) (d : ℕ) (h : History) → d ≤ last_day → Accounts h k → SlipOut h d → Known (told (lifting k d false).answer)
unfolding lifting
withdraw_known k d h within law is = let r = out_reserved k d h law is in grind arith

-- the same where an answer and what is kept are known by equations
pub reserve_by : (k l : Kept) (d : ℕ) (a : Told ℕ) → a ≡ given d (reserving k d).answer → l ≡ (reserving k d).after → (h : History) → Accounts h k → Accounts (reserves d a ∷ h) l
reserve_by k l d a a-is l-is h law = rw (a-is, l-is) (reserve_law k d h law)

pub withdraw_by : (k l : Kept) (d : ℕ) (a : Told (Unit {0})) → a ≡ told (lifting k d false).answer → l ≡ (lifting k d false).after → Rising k.held → (h : History) → Accounts h k → Accounts (withdraws d a ∷ h) l
withdraw_by k l d a a-is l-is rising h law = rw (a-is, l-is) (withdraw_law k d h rising law)

pub withdraw_known_by : (k : Kept) (d : ℕ) (a : Told (Unit {0})) → a ≡ told (lifting k d false).answer → d ≤ last_day → (h : History) → Accounts h k → SlipOut h d → Known a
withdraw_known_by k d a a-is within h law is = rw a-is (withdraw_known k d h within law is)

-- a slip that is given is of the day that was asked for
pub slip_day : (d x : ℕ) (r : Result (Unit {0}) BookRefusal) → fine x ≡ given d r → (x ≡ d) × (r ≡ Ok tt)
slip_day d x (Ok u) e = (cc, refl)
slip_day d x (Err OutOfRange) e = cc
slip_day d x (Err Reserved) e = cc
slip_day d x (Err Full) e = cc
slip_day d x (Err NotReserved) e = cc

pub out_by : (k : Kept) (d : ℕ) (s : Result Slip BookRefusal) → slip_told s ≡ given d (reserving k d).answer → (h : History) → Accounts h k → IfOk s (λ z. SlipOut (reserves d (slip_told s) ∷ h) z.day)
out_by k d (Ok z) e h law = let f = slip_day d z.day (reserving k d).answer e in rw f.0 (reserve_out k d h law f.1)
out_by k d (Err e) is h law = tt
