-- The asking of one Resource, as its loop goes: one more question, a question that ends it, and what was kept at its end.
use Rattle.std.proofs.Common.{◌≡◌, ℕ, zero, suc, ◌+◌, ◌<◌, true, false, List, length, get_or, drop, ℤ, pos, nat_abs, Some, None, Ok, Option, sym, refl, ap, ◌∙◌, inl, inr, arith}
use Rattle.std.proofs.lemmas.Bool.{or_left, or_right, or_from, and_from}
use Rattle.terms.specs.declared.determinant.Determinant.{Determinant}
use Rattle.terms.specs.declared.determinant.Determinant.TheVariants.{Owner, Vssvariol, Urllag, Urllead, Rtvar, Hsl, Lsl, Rtspp, Rthslaiec, Rtvssaiec, Rtmg}
use Rattle.terms.specs.declared.determinant.Missing.TheVariants.{Warning as Warns}
use Rattle.terms.specs.Determinants.{missing_of}
use Rattle.terms.specs.Sources.{Table}
use Rattle.amounts.specs.Readings.{cost_in, ranged}
use Rattle.amounts.specs.Tables.{missing, figure, cost, answer, at, skipped, readings_at}
use Rattle.amounts.proofs.Ranged.{admitted_sized}
use Rattle.intervals.specs.declared.fault.Cause.{Cause}
use Rattle.intervals.specs.declared.judge.Judgement.{Judgement}
use Rattle.intervals.specs.declared.judge.Judgement.TheVariants.{Skipped, Stopped}
use Rattle.intervals.specs.declared.warning.Warning.{Warning}
use Rattle.intervals.specs.Courses.{fault_at, judged_at, rows_for, walk, of_resource, written, after}
use Rattle.intervals.specs.Askings.{held_as, Kept, Passed, place_of, figure_at, number_at, gathered, asked_of, Reads, Found, Asks}
use Rattle.std.specs.Option.{option_map}
use Rattle.intervals.specs.declared.asking.Figures.{Figures}
use Rattle.intervals.proofs.Walked.{walk_more, walk_skips, walk_stops}
use Rattle.intervals.proofs.Judging.{Number, number_kept, cost_kept, there_kept, skips, skip_rows}

-- the k-th question, about d: j is what its answer means
module _ (t : Table) (y i u : ℕ) (ws : List Warning) (n k : ℕ) (lt : k < 11) (d : Determinant) (is : d ≡ get_or of_resource k Owner) (j : Judgement) (said : j ≡ judged_at t y i d u) where
  pub here : judged_at t y i (get_or of_resource k Owner) u ≡ j
  here = ap (λ x. judged_at t y i x u) (sym is) ∙ sym said

  module _ (vs : List Warning) (m : ℕ) (count : m ≡ n + length (rows_for y i u d j)) (rows : vs ≡ written ws n (rows_for y i u d j)) where
    pub goes_on : (o : Option ℤ) → j ≡ held_as o → after vs m (walk t y i u (drop (k + 1) of_resource)) ≡ after ws n (walk t y i u (drop k of_resource))
    goes_on o e =
        let same : rows_for y i u d j ≡ rows_for y i u (get_or of_resource k Owner) (held_as o) = ap (rows_for y i u d) e ∙ ap (λ x. rows_for y i u x (held_as o)) is in
        ap (λ a. after a m (walk t y i u (drop (k + 1) of_resource))) (rows ∙ ap (written ws n) same)
        ∙ ap (λ a. after (written ws n (rows_for y i u (get_or of_resource k Owner) (held_as o))) a (walk t y i u (drop (k + 1) of_resource))) (count ∙ ap (λ rs. n + length rs) same)
        ∙ sym (walk_more t y i u ws n k lt o (here ∙ e))

    pub passes : j ≡ Skipped → record { warnings = vs; noted = m; fault = None } ≡ after ws n (walk t y i u (drop k of_resource))
    passes e =
        let a : vs ≡ ws = rows ∙ ap (λ x. written ws n (rows_for y i u d x)) e in
        let b : m ≡ n = let h = count ∙ ap (λ x. n + length (rows_for y i u d x)) e in omega arith in
        let w = walk_skips t y i u ws n k lt (here ∙ e) in
        cc

    pub stops : (c : Cause) → j ≡ Stopped c → record { warnings = vs; noted = m; fault = Some (fault_at c d u) } ≡ after ws n (walk t y i u (drop k of_resource))
    stops c e =
        let a : vs ≡ ws = rows ∙ ap (λ x. written ws n (rows_for y i u d x)) e in
        let b : m ≡ n = let h = count ∙ ap (λ x. n + length (rows_for y i u d x)) e in omega arith in
        let w = walk_stops t y i u ws n k lt c (here ∙ e) in
        let q = is in
        cc

  -- a Resource is passed over for its owner or its instruction; its owner is in range all the same
  pub passed_at : (xs : List (Option ℤ)) → Kept t y i u k xs → j ≡ Skipped → Passed t y i u
  unfolding of_resource
  passed_at xs kept e =
      let s = skips d (answer t y i d u) (sym said ∙ e) in
      elim (skip_rows d s.0) [
        | inl o ↦ owner_missing (ap (λ x. missing (answer t y i x u)) (sym o) ∙ s.1) (ap (λ x. figure (answer t y i x u)) (sym o) ∙ s.2)
        | inr v ↦ instruction_missing k (sym is ∙ v) kept (ap (λ x. missing (answer t y i x u)) (sym v) ∙ s.1)
      ]
    where
      owner_missing : missing (answer t y i Owner u) ≡ true → figure (answer t y i Owner u) ≡ pos 0 → Passed t y i u
      owner_missing p q = record { missing = or_left _ _ p; owner = rw q (omega arith) }

      instruction_missing : (j : ℕ) → get_or of_resource j Owner ≡ Vssvariol → Kept t y i u j xs → missing (answer t y i Vssvariol u) ≡ true → Passed t y i u
      instruction_missing zero v ks p = grind arith
      instruction_missing (suc j) v ks p =
          let o = number_kept Owner (get_or xs 0 None) (answer t y i Owner u) (λ w. grind arith) (ks 0 (omega arith)) in
          let h = admitted_sized Owner (at t y i Owner u) o.within in
          record { missing = or_right _ _ p; owner = omega arith }

-- ---- what was kept of all eleven
module _ (t : Table) (y i u : ℕ) (xs : List (Option ℤ)) (kept : Kept t y i u 11 xs) where
  number : (d : Determinant) → place_of d < 11 → get_or of_resource (place_of d) Owner ≡ d → (missing_of d ≡ Warns → ⊥) → Number d (answer t y i d u) (number_at xs d)
  number d lt is ne = number_kept d (figure_at xs d) (answer t y i d u) ne (ap (λ x. judged_at t y i x u) (sym is) ∙ kept (place_of d) lt)

  costly : (d : Determinant) → place_of d < 11 → get_or of_resource (place_of d) Owner ≡ d → missing_of d ≡ Warns → (figure_at xs d ≡ cost (answer t y i d u)) × (cost_in d (cost (answer t y i d u)) ≡ true)
  costly d lt is w = cost_kept d (figure_at xs d) (answer t y i d u) w (ap (λ x. judged_at t y i x u) (sym is) ∙ kept (place_of d) lt)

  pub owner_is : (number_at xs Owner ≡ at t y i Owner u) × (nat_abs (number_at xs Owner) < 64)
  unfolding of_resource
  owner_is =
      let o = number Owner (omega arith) refl (λ w. grind arith) in
      let h = admitted_sized Owner (at t y i Owner u) o.within in
      let e = ap nat_abs o.value in
      (o.value, omega arith)

  pub there_is : skipped t y i u ≡ false
  unfolding of_resource
  there_is =
      or_from (missing (answer t y i Owner u)) (missing (answer t y i Vssvariol u)) (there_kept Owner (get_or xs 0 None) (answer t y i Owner u) refl (kept 0 (omega arith)))
      (there_kept Vssvariol (get_or xs 1 None) (answer t y i Vssvariol u) refl (kept 1 (omega arith)))

  pub readings_are : (gathered xs ≡ readings_at t y i u) × (ranged (readings_at t y i u) ≡ true)
  unfolding of_resource readings_at ranged
  readings_are =
      let v = number Vssvariol (omega arith) refl (λ w. grind arith) in
      let g = number Urllag (omega arith) refl (λ w. grind arith) in
      let l = number Urllead (omega arith) refl (λ w. grind arith) in
      let r = number Rtvar (omega arith) refl (λ w. grind arith) in
      let h = number Hsl (omega arith) refl (λ w. grind arith) in
      let o = number Lsl (omega arith) refl (λ w. grind arith) in
      let p = number Rtspp (omega arith) refl (λ w. grind arith) in
      let f = costly Rthslaiec (omega arith) refl refl in
      let m = costly Rtvssaiec (omega arith) refl refl in
      let n = number Rtmg (omega arith) refl (λ w. grind arith) in (
        (let a = v.value in let b = g.value in let c = l.value in let e = r.value in let j = h.value in let k = o.value in let q = p.value in let s = f.0 in let w = m.0 in let x = n.value in cc),
        and_from _ _ (and_from _ _ v.within (and_from _ _ g.within (and_from _ _ l.within r.within)))
            (and_from _ _ h.within (and_from _ _ o.within (and_from _ _ p.within (and_from _ _ f.1 (and_from _ _ m.1 n.within))))),
      )

  pub found : Found t y i u (asked_of xs)
  found = record {
    there = there_is;
    owner = ap nat_abs owner_is.0;
    small = let h = owner_is.1 in omega arith;
    readings = readings_are.0;
    within = readings_are.1;
  }

pub asks : (t : Table) (y i u : ℕ) (o : Option Figures) → Reads t y i u (Ok o) → Asks t y i u (Ok (option_map (λ f. asked_of f.places) o))
asks t y i u None passed = passed
asks t y i u (Some f) kept = found t y i u f.places kept
