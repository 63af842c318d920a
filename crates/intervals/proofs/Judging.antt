-- What a judgement tells of the answer.
use Rattle.std.proofs.Common.{◌≡◌, Bool, true, false, cond, ◌⊎◌, ℤ, pos, Some, None, Option, unwrap_or, sym, refl, ap, ◌∙◌, inl, inr, arith}
use Rattle.terms.specs.declared.answer.Answer.{Answer}
use Rattle.terms.specs.declared.answer.Answer.TheVariants.{NoCut, Null, Figure}
use Rattle.terms.specs.declared.determinant.Determinant.{Determinant}
use Rattle.terms.specs.declared.determinant.Determinant.TheVariants.{Owner, Vssvariol, Urllag, Urllead, Rtvar, Hsl, Lsl, Rtspp, Rthslaiec, Rtvssaiec, Rtmg, Lrs, Vssvarpr}
use Rattle.terms.specs.declared.determinant.Missing.{Missing as Rule}
use Rattle.terms.specs.declared.determinant.Missing.TheVariants.{Skip, Zero, Warning, Stop as Stops}
use Rattle.terms.specs.Determinants.{missing_of, admitted}
use Rattle.amounts.specs.Readings.{cost_in}
use Rattle.amounts.specs.Tables.{missing, figure, cost}
use Rattle.intervals.specs.declared.fault.Cause.TheVariants.{OutOfRange}
use Rattle.intervals.specs.declared.judge.Judgement.TheVariants.{Taken, Skipped, Stopped}
use Rattle.intervals.specs.Judgements.{wanting, judged}
use Rattle.intervals.specs.Askings.{held_as}

-- ---- a number that is there
held_number : (x : ℤ) (b : Bool) (o : Option ℤ) → cond b (Taken x) (Stopped OutOfRange) ≡ held_as o → (o ≡ Some x) × (b ≡ true)
held_number x true None e = ((cc), refl)
held_number x true (Some z) e = ((cc), refl)
held_number x false None e = ((cc), grind arith)
held_number x false (Some z) e = ((cc), grind arith)

-- ---- one that is missing
held_missing : (r : Rule) (o : Option ℤ) → wanting r ≡ held_as o → ((r ≡ Zero) × (o ≡ Some (pos 0))) ⊎ ((r ≡ Warning) × (o ≡ None))
held_missing Skip None e = inr ((cc), refl)
held_missing Skip (Some z) e = inl ((cc), (cc))
held_missing Zero None e = inr ((cc), refl)
held_missing Zero (Some z) e = inl (refl, (cc))
held_missing Warning None e = inr (refl, refl)
held_missing Warning (Some z) e = inl ((cc), (cc))
held_missing Stops None e = inr ((cc), refl)
held_missing Stops (Some z) e = inl ((cc), (cc))

-- zero lies in every range
pub admitted_zero : (d : Determinant) → admitted d (pos 0) ≡ true
admitted_zero Owner = refl
admitted_zero Vssvariol = refl
admitted_zero Urllag = refl
admitted_zero Urllead = refl
admitted_zero Rtvar = refl
admitted_zero Hsl = refl
admitted_zero Lsl = refl
admitted_zero Rtspp = refl
admitted_zero Rthslaiec = refl
admitted_zero Rtvssaiec = refl
admitted_zero Rtmg = refl
admitted_zero Lrs = refl
admitted_zero Vssvarpr = refl

-- what is kept of an answer that is no cost
pub record Number (d : Determinant) (a : Answer) (x : ℤ) : Type 0 where
  pub value : x ≡ figure a
  pub within : admitted d (figure a) ≡ true

module _ (d : Determinant) (o : Option ℤ) where
  absent : (a : Answer) → figure a ≡ pos 0 → (missing_of d ≡ Warning → ⊥) → wanting (missing_of d) ≡ held_as o → Number d a (unwrap_or o (pos 0))
  absent a z ne e =
      elim (held_missing (missing_of d) o e) [
        | inl p ↦ record { value = ap (λ v. unwrap_or v (pos 0)) p.1 ∙ sym z; within = ap (admitted d) z ∙ admitted_zero d }
        | inr p ↦ absurd (ne p.0)
      ]

  pub number_kept : (a : Answer) → (missing_of d ≡ Warning → ⊥) → judged d a ≡ held_as o → Number d a (unwrap_or o (pos 0))
  number_kept NoCut ne e = absent NoCut refl ne e
  number_kept Null ne e = absent Null refl ne e
  number_kept (Figure x) ne e =
      let p = held_number x (admitted d x) o e in record { value = ap (λ v. unwrap_or v (pos 0)) p.0; within = p.1 }

  gone : missing_of d ≡ Warning → wanting (missing_of d) ≡ held_as o → o ≡ None
  gone w e = elim (held_missing (missing_of d) o e) [ inl p ↦ (let h = sym p.0 ∙ w in cc) | inr p ↦ p.1 ]

  pub cost_kept : (a : Answer) → missing_of d ≡ Warning → judged d a ≡ held_as o → (o ≡ cost a) × (cost_in d (cost a) ≡ true)
  cost_kept NoCut w e = (gone w e, refl)
  cost_kept Null w e = (gone w e, refl)
  cost_kept (Figure x) w e = held_number x (admitted d x) o e

  there : {P : Type 0} → missing_of d ≡ Skip → wanting (missing_of d) ≡ held_as o → P
  there s e =
      elim (held_missing (missing_of d) o e) [
        | inl p ↦ (let h = sym p.0 ∙ s in grind arith)
        | inr p ↦ (let h = sym p.0 ∙ s in grind arith)
      ]

  pub there_kept : (a : Answer) → missing_of d ≡ Skip → judged d a ≡ held_as o → missing a ≡ false
  there_kept NoCut s e = there s e
  there_kept Null s e = there s e
  there_kept (Figure x) s e = refl

-- ---- what is passed over
wanting_skips : (r : Rule) → wanting r ≡ Skipped → r ≡ Skip
wanting_skips Skip e = refl
wanting_skips Zero e = cc
wanting_skips Warning e = cc
wanting_skips Stops e = cc

number_skips : (x : ℤ) (b : Bool) {P : Type 0} → cond b (Taken x) (Stopped OutOfRange) ≡ Skipped → P
number_skips x true e = grind arith
number_skips x false e = grind arith

pub skips : (d : Determinant) (a : Answer) → judged d a ≡ Skipped → (missing_of d ≡ Skip) × (missing a ≡ true) × (figure a ≡ pos 0)
skips d NoCut e = (wanting_skips (missing_of d) e, refl, refl)
skips d Null e = (wanting_skips (missing_of d) e, refl, refl)
skips d (Figure x) e = number_skips x (admitted d x) e

pub skip_rows : (d : Determinant) → missing_of d ≡ Skip → (d ≡ Owner) ⊎ (d ≡ Vssvariol)
skip_rows Owner e = inl refl
skip_rows Vssvariol e = inr refl
skip_rows Urllag e = inl (cc)
skip_rows Urllead e = inl (cc)
skip_rows Rtvar e = inl (cc)
skip_rows Hsl e = inl (cc)
skip_rows Lsl e = inl (cc)
skip_rows Rtspp e = inl (cc)
skip_rows Rthslaiec e = inl (cc)
skip_rows Rtvssaiec e = inl (cc)
skip_rows Rtmg e = inl (cc)
skip_rows Lrs e = inl (cc)
skip_rows Vssvarpr e = inl (cc)
