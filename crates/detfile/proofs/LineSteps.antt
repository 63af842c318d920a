-- One step of the walk over the lines of a file.
use Rattle.std.proofs.Common.{◌≡◌, ℕ, ◌+◌, ◌≤◌, Bool, true, false, cond, eqb, List, [], ◌∷◌, ◌++◌, length, Some, None, Option, sym, refl, ap, ◌∙◌, append_assoc, append-nil, arith}
use Rattle.std.specs.List.{flat_map}
use Rattle.std.proofs.lemmas.List.{nil_from_length, length_push}
use Rattle.std.proofs.lemmas.Bool.{cond-false, cond_both, ne_eqb, eqb-true, eqb-false}
use Rattle.figures.specs.Cuts.{cut, cut_on}
use Rattle.detfile.specs.Lines.{Line, ended, unended, lines_on, lines, written}

-- what the first line feed says of the lines
abbrev pub by_cut : List ℕ → Option (List ℕ × List ℕ) → List Line
by_cut bs None = cond (eqb (length bs) 0) [] (unended bs ∷ [])
by_cut bs (Some p) = ended p.0 ∷ lines p.1

lines_on_by : (front bs : List ℕ) → lines_on front bs ≡ by_cut (front ++ bs) (cut_on 10 front bs)
lines_on_by front [] = ap (λ l. cond (eqb (length l) 0) [] (unended l ∷ [])) (sym (append-nil front))
lines_on_by front (b ∷ bs) =
    elim (eqb b 10) as (λ t. cond t (ended front ∷ lines bs) (lines_on (front ++ b ∷ []) bs) ≡ by_cut (front ++ b ∷ bs) (cond t (Some (front, bs)) (cut_on 10 (front ++ b ∷ []) bs))) [
      | true ↦ refl
      | false ↦ lines_on_by (front ++ b ∷ []) bs ∙ ap (λ l. by_cut l (cut_on 10 (front ++ b ∷ []) bs)) (append_assoc front (b ∷ []) bs)
    ]

pub lines_cut : (bs : List ℕ) → lines bs ≡ by_cut bs (cut 10 bs)
lines_cut bs = lines_on_by [] bs

module _ (bs : List ℕ) where
  pub line_more : (p : List ℕ × List ℕ) → Some p ≡ cut 10 bs → lines bs ≡ ended p.0 ∷ lines p.1
  line_more p e = lines_cut bs ∙ ap (by_cut bs) (sym e)

  pub line_open : None ≡ cut 10 bs → (length bs ≡ 0 → ⊥) → lines bs ≡ unended bs ∷ []
  line_open e h = lines_cut bs ∙ ap (by_cut bs) (sym e) ∙ cond-false _ _ _ (ne_eqb _ _ h)

-- each line has a byte of its own
few_lines_on : (front bs : List ℕ) → length (lines_on front bs) ≤ length front + length bs
few_lines_on front [] =
    cond_both (eqb (length front) 0) [] (unended front ∷ []) (λ ls. length ls ≤ length front + 0) (λ _. omega arith)
    (λ f. let h = eqb-false (length front) 0 f in omega arith)
few_lines_on front (b ∷ bs) =
    cond_both (eqb b 10) (ended front ∷ lines_on [] bs) (lines_on (front ++ b ∷ []) bs) (λ ls. length ls ≤ length front + length (b ∷ bs))
    (λ _. let h = few_lines_on [] bs in omega arith) (λ _. let h = few_lines_on (front ++ b ∷ []) bs in omega (arith, length_push front b))

pub few_lines : (bs : List ℕ) → length (lines bs) ≤ length bs
few_lines bs = let h = few_lines_on [] bs in omega arith

last_line : (front : List ℕ) (t : Bool) → eqb (length front) 0 ≡ t → flat_map written (cond t [] (unended front ∷ [])) ≡ front
last_line front true e = sym (nil_from_length front (eqb-true _ 0 e))
last_line front false e = append-nil front

turn : (front : List ℕ) (b : ℕ) (bs : List ℕ) (t : Bool) → eqb b 10 ≡ t → flat_map written (lines_on [] bs) ≡ bs → flat_map written (lines_on (front ++ b ∷ []) bs) ≡ (front ++ b ∷ []) ++ bs → flat_map written (cond t (ended front ∷ lines_on [] bs) (lines_on (front ++ b ∷ []) bs)) ≡ front ++ b ∷ bs
turn front b bs true e p q = ap (λ l. (front ++ 10 ∷ []) ++ l) p ∙ append_assoc front (10 ∷ []) bs ∙ ap (λ n. front ++ n ∷ bs) (sym (eqb-true b 10 e))
turn front b bs false e p q = q ∙ append_assoc front (b ∷ []) bs

rejoins_on : (front bs : List ℕ) → flat_map written (lines_on front bs) ≡ front ++ bs
rejoins_on front [] = last_line front _ refl ∙ sym (append-nil front)
rejoins_on front (b ∷ bs) = turn front b bs (eqb b 10) refl (rejoins_on [] bs) (rejoins_on (front ++ b ∷ []) bs)

pub rejoins : (bs : List ℕ) → flat_map written (lines bs) ≡ bs
rejoins bs = rejoins_on [] bs
