-- The check's verdict is as the law says.
use Rattle.std.proofs.Common.{◌≡◌, ℕ, suc, ◌+◌, ◌≤◌, true, false, ◌&&◌, eqb, leb, List, [], ◌∷◌, ◌++◌, length, Some, None, Ok, Err, Option, Result, ok_or, refl, ap, ◌∙◌, subst, inl, inr, arith}
use Rattle.std.specs.List.{AllByRecursion}
use Rattle.std.proofs.lemmas.Bool.{leb-true, leb-false, eqb-false, cond_both}
use Rattle.terms.specs.Decisions.{Among}
use Rattle.terms.specs.declared.determinant.Determinant.{Determinant}
use Rattle.figures.specs.Cuts.{cut, first_field, past_field, spaces}
use Rattle.figures.specs.declared.numbers.Fault.{Fault}
use Rattle.detfile.specs.declared.refusal.FileRefusal.{FileRefusal}
use Rattle.detfile.specs.declared.refusal.FileRefusal.TheVariants.{TooLong, Names, Shape}
use Rattle.detfile.specs.Keys.{then, key_of, values_part}
use Rattle.detfile.specs.Names.{most_line, names_of}
use Rattle.detfile.specs.Values.{given, values_fault, fields_fault, located, line_judged}
use Rattle.detfile.specs.Lines.{Line, ended, unended, lines_on, lines, lines_judged}
use Rattle.detfile.specs.Files.{most_bytes, names_cut, judged}
use Rattle.detfile.specs.Verdicts.{Unbroken, Endings, Lined, Given, Shaped, Sound, SoundLine, FaultyLine, LinesVerdict, Verdict, too_long, unnamed, misnamed, valued}
use Rattle.detfile.proofs.LineSteps.{rejoins}

-- LINES
unbroken_more : (bs : List ℕ) (b : ℕ) → (b ≡ 10 → ⊥) → Unbroken bs → Unbroken (bs ++ b ∷ [])
unbroken_more [] b n h = (n, tt)
unbroken_more (x ∷ bs) b n h = (h.0, unbroken_more bs b n h.1)

endings_on : (front bs : List ℕ) → Unbroken front → Endings (lines_on front bs)
endings_on front [] h =
    cond_both (eqb (length front) 0) [] (unended front ∷ []) Endings (λ _. tt)
    (λ f. (h, λ e. eqb-false (length front) 0 f (ap length e)))
endings_on front (b ∷ bs) h =
    cond_both (eqb b 10) (ended front ∷ lines_on [] bs) (lines_on (front ++ b ∷ []) bs) Endings (λ _. (h, endings_on [] bs tt))
    (λ f. endings_on (front ++ b ∷ []) bs (unbroken_more front b (eqb-false b 10 f) h))

pub lined : (bs : List ℕ) → Lined bs
lined bs = record { rejoined = rejoins bs; endings = endings_on [] bs tt }

-- VALUE LINES
then_ok : {E X Y : Type 0} (r : Result X E) (f : X → Result Y E) (y : Y) → then r f ≡ Ok y → (x : X) × (r ≡ Ok x) × (f x ≡ Ok y)
then_ok (Err e) f y h = grind arith
then_ok (Ok x) f y h = (x, refl, h)

given_all : (ks : List Determinant) (bs : List ℕ) → values_fault ks bs ≡ Ok tt → Given ks bs
given_all [] bs e = tt
given_all (k ∷ ks) bs e =
    let p = then_ok (given k (first_field bs)) (λ _. values_fault ks (past_field bs)) tt e in
    (p.0, p.1, given_all ks (past_field bs) p.2)

sound_fields : (ks : List Determinant) (l : List ℕ) → Shaped ks l → fields_fault ks l ≡ Ok tt → Sound ks l
sound_fields ks l s e =
    let p = then_ok (key_of l) (λ _. values_fault ks (values_part l)) tt e in
    record { shaped = s; key = p.0; read = p.1; given = given_all ks (values_part l) p.2 }

-- the test of a line's shape
shape_yes : (ks : List Determinant) (l : List ℕ) → (leb (length l) most_line && eqb (spaces l) (length ks + 2)) ≡ true → Shaped ks l
shape_yes ks l e = grind arith

shape_no : (ks : List Determinant) (l : List ℕ) → (leb (length l) most_line && eqb (spaces l) (length ks + 2)) ≡ false → Shaped ks l → ⊥
shape_no ks l e s = grind arith

-- what is said of one line: it is sound, or it is at fault
abbrev LineSaid : List Determinant → ℕ → List ℕ → Result (Unit {0}) FileRefusal → Type 0
LineSaid ks n l (Ok x) = Sound ks l
LineSaid ks n l (Err e) = FaultyLine ks n e (ended l)

fields_said : (ks : List Determinant) (n : ℕ) (l : List ℕ) (r : Result (Unit {0}) Fault) → Shaped ks l → fields_fault ks l ≡ r → LineSaid ks n l (located n r)
fields_said ks n l (Ok x) s e = sound_fields ks l s e
fields_said ks n l (Err f) s e = inr (f, s, e, refl)

line_said : (ks : List Determinant) (n : ℕ) (l : List ℕ) → LineSaid ks n l (line_judged ks n l)
line_said ks n l =
    cond_both (leb (length l) most_line && eqb (spaces l) (length ks + 2)) (located n (fields_fault ks l)) (Err (Shape n)) (LineSaid ks n l)
    (λ t. fields_said ks n l (fields_fault ks l) (shape_yes ks l t) refl) (λ f. inl (shape_no ks l f, refl))

-- the verdict on lines of which n stand before
abbrev VerdictOn : List Determinant → ℕ → List Line → Result ℕ FileRefusal → Type 0
VerdictOn ks n ls (Ok k) = AllByRecursion (SoundLine ks) ls × (k ≡ n + length ls)
VerdictOn ks n ls (Err e) = (m : Among ls) × AllByRecursion (SoundLine ks) m.before × FaultyLine ks (n + length m.before + 2) e m.one

abbrev after : (l : List ℕ) (ls : List Line) → Among ls → Among (ended l ∷ ls)
after l ls m = record { before = ended l ∷ m.before; one = m.one; after = m.after; whole = ap (λ x. ended l ∷ x) m.whole }

abbrev first : (l : Line) (ls : List Line) → Among (l ∷ ls)
first l ls = record { before = []; one = l; after = ls; whole = refl }

verdict_more : (ks : List Determinant) (n : ℕ) (l : List ℕ) (ls : List Line) (r : Result ℕ FileRefusal) → Sound ks l → VerdictOn ks (n + 1) ls r → VerdictOn ks n (ended l ∷ ls) r
verdict_more ks n l ls (Ok k) s v = ((s, v.0), v.1 ∙ omega arith)
verdict_more ks n l ls (Err e) s v =
    let m = v.0 in
    let place : n + 1 + length m.before + 2 ≡ n + suc (length m.before) + 2 = omega arith in
    (after l ls m, (s, v.1), subst (λ (p : ℕ). FaultyLine ks p e m.one) place v.2)

verdict_step : (ks : List Determinant) (n : ℕ) (l : List ℕ) (ls : List Line) (r : Result (Unit {0}) FileRefusal) → LineSaid ks (n + 2) l r → VerdictOn ks (n + 1) ls (lines_judged ks (n + 1) ls) → VerdictOn ks n (ended l ∷ ls) (then (then {Y = ℕ} r (λ _. Ok (n + 1))) (λ m. lines_judged ks m ls))
verdict_step ks n l ls (Ok x) s v = verdict_more ks n l ls (lines_judged ks (n + 1) ls) s v
verdict_step ks n l ls (Err e) s v =
    let place : n + 2 ≡ n + 0 + 2 = omega arith in
    (first (ended l) ls, tt, subst (λ (p : ℕ). FaultyLine ks p e (ended l)) place s)

verdict_on : (ks : List Determinant) (n : ℕ) (ls : List Line) → VerdictOn ks n ls (lines_judged ks n ls)
verdict_on ks n [] = (tt, omega arith)
verdict_on ks n (ended l ∷ ls) = verdict_step ks n l ls (line_judged ks (n + 2) l) (line_said ks (n + 2) l) (verdict_on ks (n + 1) ls)
verdict_on ks n (unended l ∷ ls) =
    let place : n + 2 ≡ n + 0 + 2 = omega arith in
    (first (unended l) ls, tt, ap Shape place)

-- no line stands before the first
from_none : (ks : List Determinant) (ls : List Line) (r : Result ℕ FileRefusal) → VerdictOn ks 0 ls r → LinesVerdict ks ls r
from_none ks ls (Ok k) v = (v.0, v.1 ∙ omega arith)
from_none ks ls (Err e) v =
    let m = v.0 in
    let place : 0 + length m.before + 2 ≡ length m.before + 2 = omega arith in
    (m, v.1, subst (λ (p : ℕ). FaultyLine ks p e m.one) place v.2)

-- THE FILE
-- what is judged of the names line's columns, and before that of the first line
abbrev by_columns : List ℕ → Option (List Determinant) → Result (List Determinant × List ℕ) FileRefusal
by_columns values o = then (ok_or o Names) (λ ks. Ok (ks, values))

abbrev by_parts : Option (List ℕ × List ℕ) → Result (List Determinant × List ℕ) FileRefusal
by_parts o = then (ok_or o Names) (λ p. by_columns p.1 (names_of p.0))

abbrev after_names : Result (List Determinant × List ℕ) FileRefusal → Result ℕ FileRefusal
after_names r = then r (λ p. lines_judged p.0 0 (lines p.1))

columns_verdict : (bs names values : List ℕ) (o : Option (List Determinant)) → length bs ≤ most_bytes → Some (names, values) ≡ cut 10 bs → names_of names ≡ o → Verdict bs (after_names (by_columns values o))
columns_verdict bs names values None h c e = misnamed names values h c e
columns_verdict bs names values (Some ks) h c e = valued names values ks _ h c e (from_none ks (lines values) _ (verdict_on ks 0 (lines values)))

parts_verdict : (bs : List ℕ) (o : Option (List ℕ × List ℕ)) → length bs ≤ most_bytes → o ≡ cut 10 bs → Verdict bs (after_names (by_parts o))
parts_verdict bs None h c = unnamed h c
parts_verdict bs (Some p) h c = columns_verdict bs p.0 p.1 (names_of p.0) h c refl

pub verdict : (bs : List ℕ) → Verdict bs (judged bs)
verdict bs =
    cond_both (leb (length bs) most_bytes) (after_names (names_cut bs)) (Err TooLong) (Verdict bs)
    (λ t. parts_verdict bs (cut 10 bs) (leb-true (length bs) most_bytes t) refl) (λ f. too_long (leb-false (length bs) most_bytes f))
