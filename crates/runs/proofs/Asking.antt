-- Where nothing stops the asking of an interval, all that it needs is there and in its range.
use Rattle.std.proofs.Common.{◌≡◌, ℕ, zero, suc, ◌<◌, ◌≢◌, Bool, true, false, ◌||◌, List, [], ◌∷◌, length, ℤ, pos, negsuc, Some, None, Option, nat_abs, inl, inr, refl, arith}
use Rattle.std.proofs.lemmas.Bool.{cases_eq}
use Rattle.std.proofs.lemmas.Bool.Decides.{nat_tests}
use Rattle.terms.specs.declared.answer.Answer.{Answer}
use Rattle.terms.specs.declared.answer.Answer.TheVariants.{NoCut, Null, Figure}
use Rattle.terms.specs.declared.determinant.Determinant.{Determinant}
use Rattle.terms.specs.declared.determinant.Determinant.TheVariants.{Owner, Vssvariol, Urllag, Urllead, Rtvar, Hsl, Lsl, Rtspp, Rthslaiec, Rtvssaiec, Rtmg, Lrs, Vssvarpr}
use Rattle.terms.specs.declared.determinant.Missing.TheVariants.{Skip, Zero, Warning, Stop}
use Rattle.terms.specs.Determinants.{missing_of, admitted}
use Rattle.terms.specs.Sources.{Table}
use Rattle.amounts.specs.Sums.{add_to}
use Rattle.amounts.specs.Readings.{cost_in, ranged}
use Rattle.amounts.specs.Tables.{missing, figure, cost, answer, at, skipped, readings_at, Judged, Given, OwnedBy, Needed, Complete}
use Rattle.amounts.specs.Traces.{JudgedOver}
use Rattle.intervals.specs.declared.fault.Fault.{Fault}
use Rattle.intervals.specs.Judgements.{judged}
use Rattle.intervals.specs.Courses.{Course, next, step, walk, of_resource, resource, resources_to, shares_to, summed, course}
use Rattle.runs.specs.Works.{FaultlessOver, CompleteOver}

-- a number in its determinant's range
abbrev InRange : Determinant → Answer → Type 0
InRange d a = (x : ℤ) × (a ≡ Figure x) × (admitted d x ≡ true)

next_both : (a b : Course) → (next a b).fault ≡ None → (a.fault ≡ None) × (b.fault ≡ None)
next_both a b h = go a.fault refl
  where
    go : (o : Option Fault) → a.fault ≡ o → (a.fault ≡ None) × (b.fault ≡ None)
    go None is = (is, rw is at h)
    go (Some f) is = let k : Some f ≡ None = rw is at h in cc

module _ (t : Table) (y i u : ℕ) (d : Determinant) (c : Course) where
  -- a number is taken where it is in range, and stops the run where it is not
  number_step : (x : ℤ) → (step t y i u d (judged d (Figure x)) c).fault ≡ None → (admitted d x ≡ true) × (c.fault ≡ None)
  number_step x h = go (admitted d x) refl
    where
      go : (b : Bool) → admitted d x ≡ b → (admitted d x ≡ true) × (c.fault ≡ None)
      go true is = (is, rw is at h)
      go false is = let k = rw is at h in cc

  -- one that is needed is there
  stop_step : missing_of d ≡ Stop → (a : Answer) → (step t y i u d (judged d a) c).fault ≡ None → InRange d a × (c.fault ≡ None)
  stop_step r NoCut h = let k = rw r at h in cc
  stop_step r Null h = let k = rw r at h in cc
  stop_step r (Figure x) h = let n = number_step x h in ((x, refl, n.0), n.1)

  -- one that counts as zero where it is missing is in its range
  zero_step : missing_of d ≡ Zero → admitted d (pos 0) ≡ true → (a : Answer) → (step t y i u d (judged d a) c).fault ≡ None → (admitted d (figure a) ≡ true) × (c.fault ≡ None)
  zero_step r z NoCut h = (z, rw r at h)
  zero_step r z Null h = (z, rw r at h)
  zero_step r z (Figure x) h = number_step x h

  -- a cost may be missing
  cost_step : missing_of d ≡ Warning → (a : Answer) → (step t y i u d (judged d a) c).fault ≡ None → (cost_in d (cost a) ≡ true) × (c.fault ≡ None)
  cost_step r NoCut h = (refl, rw r at h)
  cost_step r Null h = (refl, rw r at h)
  cost_step r (Figure x) h = number_step x h

  -- a Resource is passed over, or goes on
  skip_step : missing_of d ≡ Skip → (a : Answer) → (step t y i u d (judged d a) c).fault ≡ None → missing a ≡ false → InRange d a × (c.fault ≡ None)
  skip_step r NoCut h m = cc
  skip_step r Null h m = cc
  skip_step r (Figure x) h m = let n = number_step x h in ((x, refl, n.0), n.1)

-- what follows the questions about a Resource's owner and its instruction
abbrev costs : List Determinant
costs = Rthslaiec ∷ Rtvssaiec ∷ Rtmg ∷ []

abbrev output : List Determinant
output = Hsl ∷ Lsl ∷ Rtspp ∷ costs

abbrev limits : List Determinant
limits = Urllag ∷ Urllead ∷ Rtvar ∷ output

or_false : (a b : Bool) → a || b ≡ false → (a ≡ false) × (b ≡ false)
or_false false b e = (refl, e)
or_false true b e = cc

module _ (t : Table) (y i u : ℕ) where
  owner_range : (resource t y i u).fault ≡ None → missing (answer t y i Owner u) ≡ false → InRange Owner (answer t y i Owner u) × ((walk t y i u (Vssvariol ∷ limits)).fault ≡ None)
  unfolding resource of_resource
  owner_range h m = skip_step t y i u Owner (walk t y i u (Vssvariol ∷ limits)) refl (answer t y i Owner u) h m

  given_by : (d : Determinant) → InRange d (answer t y i d u) → Given t y i d u
  given_by d r = record { number = r.0; is = r.1; within = r.2 }

  figure_range : (d : Determinant) → InRange d (answer t y i d u) → admitted d (at t y i d u) ≡ true
  figure_range d r = rw r.1 r.2

  code_of : InRange Owner (answer t y i Owner u) → OwnedBy t y i 64 u
  code_of r = go r.0 r.1 r.2
    where
      go : (z : ℤ) → answer t y i Owner u ≡ Figure z → admitted Owner z ≡ true → OwnedBy t y i 64 u
      go (pos k) is e = record { code = k; below = grind (arith, nat_tests); is = is }
      go (negsuc k) is e = absurd (grind (arith, nat_tests))

  -- a Resource that is not passed over
  record Told : Type 0 where
    pub needed : Needed t y i u
    pub readings : ranged (readings_at t y i u) ≡ true

  told : (resource t y i u).fault ≡ None → skipped t y i u ≡ false → Told
  unfolding readings_at ranged
  told h s =
      let on = or_false (missing (answer t y i Owner u)) (missing (answer t y i Vssvariol u)) s in
      let first = owner_range h on.0 in
      let second = skip_step t y i u Vssvariol (walk t y i u limits) refl (answer t y i Vssvariol u) first.1 on.1 in
      let lag = stop_step t y i u Urllag (walk t y i u (Urllead ∷ Rtvar ∷ output)) refl (answer t y i Urllag u) second.1 in
      let lead = stop_step t y i u Urllead (walk t y i u (Rtvar ∷ output)) refl (answer t y i Urllead u) lag.1 in
      let rtvar = zero_step t y i u Rtvar (walk t y i u output) refl refl (answer t y i Rtvar u) lead.1 in
      let hsl = stop_step t y i u Hsl (walk t y i u (Lsl ∷ Rtspp ∷ costs)) refl (answer t y i Hsl u) rtvar.1 in
      let lsl = stop_step t y i u Lsl (walk t y i u (Rtspp ∷ costs)) refl (answer t y i Lsl u) hsl.1 in
      let rtspp = stop_step t y i u Rtspp (walk t y i u costs) refl (answer t y i Rtspp u) lsl.1 in
      let full = cost_step t y i u Rthslaiec (walk t y i u (Rtvssaiec ∷ Rtmg ∷ [])) refl (answer t y i Rthslaiec u) rtspp.1 in
      let made = cost_step t y i u Rtvssaiec (walk t y i u (Rtmg ∷ [])) refl (answer t y i Rtvssaiec u) full.1 in
      let rtmg = zero_step t y i u Rtmg (walk t y i u []) refl refl (answer t y i Rtmg u) made.1 in
      record {
        needed = record { urllag = given_by Urllag lag.0; urllead = given_by Urllead lead.0; hsl = given_by Hsl hsl.0; lsl = given_by Lsl lsl.0; rtspp = given_by Rtspp rtspp.0 };
        readings = rw (figure_range Vssvariol second.0, figure_range Urllag lag.0, figure_range Urllead lead.0, rtvar.0, figure_range Hsl hsl.0, figure_range Lsl lsl.0, figure_range Rtspp rtspp.0, full.0, made.0, rtmg.0) refl;
      }

module _ (t : Table) (y i : ℕ) where
  each_resource : (n : ℕ) → (resources_to t y i n).fault ≡ None → (u : ℕ) → u < n → (resource t y i u).fault ≡ None
  unfolding resources_to
  each_resource zero h u lt = absurd (omega arith)
  each_resource (suc n) h u lt =
      let b = next_both (resources_to t y i n) (resource t y i n) h in
      elim (cases_eq u n) [
        | inl is ↦ rw is b.1
        | inr ne ↦ each_resource n b.0 u (let g : u ≢ n = ne in omega arith)
      ]

  each_share : (n : ℕ) → (shares_to t y i n).fault ≡ None → (q : ℕ) → q < n → (walk t y i q (Lrs ∷ [])).fault ≡ None
  unfolding shares_to
  each_share zero h q lt = absurd (omega arith)
  each_share (suc n) h q lt =
      let b = next_both (shares_to t y i n) (walk t y i n (Lrs ∷ [])) h in
      elim (cases_eq q n) [
        | inl is ↦ rw is b.1
        | inr ne ↦ each_share n b.0 q (let g : q ≢ n = ne in omega arith)
      ]

  all_of_load : (summed t y i).fault ≡ None → add_to 64 (λ q. nat_abs (at t y i Lrs q)) ≡ 1000000
  unfolding summed
  all_of_load h = grind (arith, nat_tests)

  -- NOTHING STOPPED THE ASKING, so that nothing that is needed is missing
  pub complete : (course t y i).fault ≡ None → Complete t y i 64 128
  unfolding course
  complete h =
      let price = next_both (walk t y i 0 (Vssvarpr ∷ [])) (next (resources_to t y i 128) (next (shares_to t y i 64) (summed t y i))) h in
      let paid = next_both (resources_to t y i 128) (next (shares_to t y i 64) (summed t y i)) price.1 in
      let shared = next_both (shares_to t y i 64) (summed t y i) paid.1 in
      record {
        price = given_by t y i 0 Vssvarpr (stop_step t y i 0 Vssvarpr (walk t y i 0 []) refl (answer t y i Vssvarpr 0) price.0).0;
        owner = λ u lt m. code_of t y i u (owner_range t y i u (each_resource 128 paid.0 u lt) m).0;
        needed = λ u lt s. (told t y i u (each_resource 128 paid.0 u lt) s).needed;
        readings = λ u lt s. (told t y i u (each_resource 128 paid.0 u lt) s).readings;
        shares = λ q lt. (zero_step t y i q Lrs (walk t y i q []) refl refl (answer t y i Lrs q) (each_share 64 shared.0 q lt)).0;
        whole = all_of_load shared.1;
      }

  owner_small : (u : ℕ) (m : Bool) → missing (answer t y i Owner u) ≡ m → (m ≡ false → OwnedBy t y i 64 u) → nat_abs (at t y i Owner u) < 64
  owner_small u true is o = go (answer t y i Owner u) refl
    where
      go : (a : Answer) → answer t y i Owner u ≡ a → nat_abs (at t y i Owner u) < 64
      go NoCut e = rw e (omega arith)
      go Null e = rw e (omega arith)
      go (Figure x) e = let k = rw e at is in cc
  owner_small u false is o = let c = o refl in rw c.is c.below

  -- and the amounts are not too large
  pub judged_by : Complete t y i 64 128 → Judged t y i 64 128
  judged_by c = record {
    price = rw c.price.is c.price.within;
    owner = λ u lt. owner_small u (missing (answer t y i Owner u)) refl (λ e. c.owner u lt e);
    readings = c.readings;
    shares = c.shares;
    whole = c.whole;
  }

-- the same over a run
pub complete_over : (y : ℕ) (ts : List Table) → FaultlessOver y ts → CompleteOver y ts
unfolding FaultlessOver CompleteOver
complete_over y [] h = tt
complete_over y (t ∷ ts) h = (complete_over y ts h.0, complete t y (suc (length ts)) h.1)

pub judged_over : (y : ℕ) (ts : List Table) → FaultlessOver y ts → JudgedOver 64 128 y ts
unfolding FaultlessOver JudgedOver
judged_over y [] h = tt
judged_over y (t ∷ ts) h = (judged_over y ts h.0, judged_by t y (suc (length ts)) (complete t y (suc (length ts)) h.1))
