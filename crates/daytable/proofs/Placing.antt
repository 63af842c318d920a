-- A number is put into the cut of its determinant and unit, and into no other.
use Rattle.std.proofs.Common.{◌≡◌, ℕ, ◌<◌, ◌≤◌, Bool, true, false, cond, ◌&&◌, eqb, List, length, get_or, refl, ap, ◌∙◌, subst, arith}
use Rattle.std.proofs.Math.ListN.{set}
use Rattle.std.proofs.lemmas.List.{get_or-set_same, get_or-set_other}
use Rattle.std.proofs.lemmas.Bool.{eqb-true, eqb-false}
use Rattle.terms.specs.Answers.{later}
use Rattle.terms.specs.Limits.{last_determinant, last_unit, last_interval}
use Rattle.terms.specs.declared.answer.Answer.{Answer}
use Rattle.terms.specs.declared.answer.Answer.TheVariants.{NoCut}
use Rattle.daytable.specs.declared.cut.Cut.{Cut}
use Rattle.daytable.specs.declared.cut.Cut.TheVariants.{Nothing}
use Rattle.daytable.specs.Cuts.{cut_count, Roomy, cut_says, place, cuts_say}

place_room : (e v : ℕ) → 1 ≤ e → e ≤ last_determinant → v ≤ last_unit → place e v < cut_count
place_room e v p q r = omega arith

same_determinant : (d u e v : ℕ) → 1 ≤ d → 1 ≤ e → u ≤ last_unit → v ≤ last_unit → place d u ≡ place e v → e ≡ d
same_determinant d u e v p q r s h = omega arith

same_unit : (d u e v : ℕ) → 1 ≤ d → 1 ≤ e → u ≤ last_unit → v ≤ last_unit → place d u ≡ place e v → v ≡ u
same_unit d u e v p q r s h = omega arith

-- the cuts after that of a determinant e and a unit v took in what a line gives
pub put_says : (cs : List Cut) (e v n : ℕ) (c : Cut) (given : ℕ → Answer) → length cs ≡ cut_count → 1 ≤ e → e ≤ last_determinant → v ≤ last_unit → n ≡ place e v
    → ((i : ℕ) → 1 ≤ i → i ≤ last_interval → cut_says c i ≡ later (cut_says (get_or cs n Nothing) i) (given i))
    → (d u i : ℕ) → Roomy d u i → cuts_say (set cs n c) d u i ≡ later (cuts_say cs d u i) (cond (eqb v u && eqb e d) (given i) NoCut)
put_says cs e v n c given long first last unit at took d u i room = by (eqb v u) (eqb e d) refl refl
  where
    same : (m : ℕ) → n ≡ m → cut_says (get_or (set cs n c) m Nothing) i ≡ later (cut_says (get_or cs m Nothing) i) (given i)
    same m h = subst (λ (m : ℕ). cut_says (get_or (set cs n c) m Nothing) i ≡ later (cut_says (get_or cs m Nothing) i) (given i)) h
        (ap (λ x. cut_says x i) (get_or-set_same cs n c Nothing (rw (long, at) (place_room e v first last unit))) ∙ took i room.from_interval room.to_interval)

    elsewhere : (place d u ≡ place e v → ⊥) → cuts_say (set cs n c) d u i ≡ cuts_say cs d u i
    elsewhere h = ap (λ x. cut_says x i) (get_or-set_other cs n (place d u) c Nothing (λ s. h (s ∙ at)))

    by : (s t : Bool) → eqb v u ≡ s → eqb e d ≡ t → cuts_say (set cs n c) d u i ≡ later (cuts_say cs d u i) (cond (s && t) (given i) NoCut)
    by true true p q = same (place d u) (at ∙ rw (eqb-true v u p, eqb-true e d q) refl)
    by false t p q = elsewhere (λ h. eqb-false v u p (same_unit d u e v room.from_determinant first room.to_unit unit h))
    by true false p q = elsewhere (λ h. eqb-false e d q (same_determinant d u e v room.from_determinant first room.to_unit unit h))
