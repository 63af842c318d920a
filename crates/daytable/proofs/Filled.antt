-- The cuts that took in a file answer as the file does, about their day.
use Rattle.std.proofs.Common.{◌≡◌, ℕ, ◌≤◌, Bool, true, false, cond, ◌&&◌, eqb, leb, List, length, ℤ, Ok, Err, Result, IfOk, unsigned_abs, refl, sym, ap, ◌∙◌, subst}
use Rattle.std.proofs.lemmas.Bool.{and_parts, leb-true, le-leb, eqb-true}
use Rattle.terms.specs.Answers.{Sized}
use Rattle.terms.specs.Decisions.{decide}
use Rattle.terms.specs.Limits.{last_determinant, last_unit, last_day, last_interval, most_stored, inside}
use Rattle.terms.specs.declared.answer.Answer.{Answer}
use Rattle.terms.specs.declared.answer.Answer.TheVariants.{NoCut, Figure}
use Rattle.terms.specs.declared.determinant.Determinant.{Determinant}
use Rattle.detfile.specs.declared.refusal.FileRefusal.{FileRefusal}
use Rattle.detfile.specs.Files.{most_bytes, names_cut, judged}
use Rattle.detfile.specs.Lines.{lines, lines_judged}
use Rattle.filesource.specs.Asks.{line_says, asked}
use Rattle.filesource.specs.AsksKept.{asked_laws}
use Rattle.filesource.proofs.AskSteps.{asked_open}
use Rattle.daytable.specs.declared.cut.Cut.{Cut}
use Rattle.daytable.specs.Cuts.{Roomy, cuts_say, tabled}

-- what may be asked there is room for
roomy : (d u y i : ℕ) → inside d u y i ≡ true → Roomy d u i
roomy d u y i e =
    let a = and_parts (leb 1 d) _ e in
    let b = and_parts (leb d last_determinant) _ a.1 in
    let c = and_parts (leb u last_unit) _ b.1 in
    let f = and_parts (leb y last_day) _ c.1 in
    let g = and_parts (leb 1 i) _ f.1 in
    record { from_determinant = leb-true 1 d a.0; to_determinant = leb-true d last_determinant b.0; to_unit = leb-true u last_unit c.0; from_interval = leb-true 1 i g.0; to_interval = leb-true i last_interval g.1 }

by_day : (s t : Bool) (a b : Answer) → (s ≡ true → t ≡ true → a ≡ b) → (s ≡ false → b ≡ NoCut) → cond (s && t) a NoCut ≡ cond t b NoCut
by_day true true a b e n = e refl refl
by_day true false a b e n = refl
by_day false true a b e n = sym (n refl)
by_day false false a b e n = refl

module _ (bs : List ℕ) (day : ℕ) where
  -- an accepted file
  pub filled : (ks : List Determinant) (vs : List ℕ) (n : ℕ) (before cs : List Cut) → judged bs ≡ Ok n → names_cut bs ≡ Ok (ks, vs)
      → ((d u i : ℕ) → Roomy d u i → cuts_say before d u i ≡ NoCut)
      → ((d u i : ℕ) → Roomy d u i → cuts_say cs d u i ≡ decide (line_says ks d u day i) (cuts_say before d u i) (lines vs))
      → (d u y i : ℕ) → tabled day cs d u y i ≡ cond (eqb y day) (asked bs d u y i) NoCut
  filled ks vs n before cs j c blank says d u y i =
      by_day (inside d u y i) (eqb y day) (cuts_say cs d u i) (asked bs d u y i)
      (λ e t.
      let room = roomy d u y i e in
      let answered : cuts_say cs d u i ≡ decide (line_says ks d u day i) NoCut (lines vs) = says d u i room ∙ ap (λ a. decide (line_says ks d u day i) a (lines vs)) (blank d u i room) in
      asked_open bs d u y i (cuts_say cs d u i) ks vs e (rw (j, c) refl) (rw (j, c) refl) (rw (eqb-true y day t) answered))
      (λ f. rw f refl)

  -- the verdict where the names line is one is that on the value lines
  pub judged_lines : (ks : List Determinant) (vs : List ℕ) → length bs ≤ most_bytes → names_cut bs ≡ Ok (ks, vs) → judged bs ≡ lines_judged ks 0 (lines vs)
  judged_lines ks vs h c = rw (le-leb (length bs) most_bytes h, c) refl

  -- and any file, as far as it is accepted
  pub filled_where : (ks : List Determinant) (vs : List ℕ) (r : Result ℕ FileRefusal) (before cs : List Cut) → judged bs ≡ r → names_cut bs ≡ Ok (ks, vs)
      → ((d u i : ℕ) → Roomy d u i → cuts_say before d u i ≡ NoCut)
      → IfOk r (λ _. (d u i : ℕ) → Roomy d u i → cuts_say cs d u i ≡ decide (line_says ks d u day i) (cuts_say before d u i) (lines vs))
      → IfOk r (λ _. (d u y i : ℕ) → tabled day cs d u y i ≡ cond (eqb y day) (asked bs d u y i) NoCut)
  filled_where ks vs (Ok n) before cs j c blank says = filled ks vs n before cs j c blank says
  filled_where ks vs (Err e) before cs j c blank says = tt

  -- so its figures lie within the stored range
  pub figures_within : (cs : List Cut) → ((d u y i : ℕ) → tabled day cs d u y i ≡ cond (eqb y day) (asked bs d u y i) NoCut) → (d u y i : ℕ) (z : ℤ) → tabled day cs d u y i ≡ Figure z → unsigned_abs z ≤ most_stored
  figures_within cs says d u y i z e = by (eqb y day) (asked bs d u y i) ((asked_laws (λ (b : List ℕ). b)).sized bs d u y i) (sym (says d u y i) ∙ e)
    where
      by : (t : Bool) (a : Answer) → Sized a → cond t a NoCut ≡ Figure z → unsigned_abs z ≤ most_stored
      by true a h f = subst Sized f h
      by false a h f = cc
