-- Places that stand as they were left, looked at one by one.
use Rattle.std.proofs.Common.{◌≡◌, ℕ, ◌+◌, ◌<◌, ◌≤◌, List, length, get_or, drop, arith, sym, ◌∙◌, false, true, Some, None, Ok, Err, Result, inl, inr, subst}
use Rattle.std.proofs.lemmas.Bool.{cases_lt}
use Rattle.std.proofs.lemmas.List.{drop_more, drop_all}
use Rattle.amounts.specs.declared.row.Amounts.{Amounts}
use Rattle.amounts.specs.Triples.{none}
use Rattle.books.specs.declared.place.Place.{Place}
use Rattle.books.specs.declared.flaw.Flaw.{Flaw}
use Rattle.books.specs.declared.survey.Front.{Front}
use Rattle.books.specs.Places.{free, at, in_range}
use Rattle.books.specs.Surveys.{Shaped, first_out, start, step, walk, surveyed}

pub out_here : (xs : List Amounts) (i : ℕ) → i < length xs → in_range (get_or xs i none) ≡ false → first_out i (drop i xs) ≡ Some i
unfolding first_out
out_here xs i l h = let d = drop_more xs i none l in grind arith

pub out_later : (xs : List Amounts) (i : ℕ) → i < length xs → in_range (get_or xs i none) ≡ true → first_out (i + 1) (drop (i + 1) xs) ≡ first_out i (drop i xs)
unfolding first_out
out_later xs i l h = let d = drop_more xs i none l in grind arith

pub out_nowhere : (xs : List Amounts) (i j : ℕ) → i ≡ length xs → first_out j (drop i xs) ≡ None
unfolding first_out
out_nowhere xs i j e = let d = drop_all i xs (omega arith) in grind arith

-- the places so far have led to this front
pub record Surveyed (xs : List Place) (i : ℕ) (f : Front) : Type 0 where
  pub used : f.used ≤ i
  pub left : walk i (Ok f) (drop i xs) ≡ walk 0 (Ok start) xs
  pub shaped : (q : ℕ) → q < i → Shaped (at xs q)

walked : (xs : List Place) (i : ℕ) (f : Front) (r : Result Front Flaw) → i < length xs → r ≡ step f i (at xs i) → walk (i + 1) r (drop (i + 1) xs) ≡ walk i (Ok f) (drop i xs)
unfolding walk
walked xs i f r l e = let d = drop_more xs i free l in grind arith

step_used : (f g : Front) (i : ℕ) (x : Place) → step f i x ≡ Ok g → f.used ≤ i → g.used ≤ i + 1
unfolding step
step_used f g i x e w = grind arith

module _ (xs : List Place) (i : ℕ) (f : Front) (s : Surveyed xs i f) where
  pub survey_more : (g : Front) → i < length xs → Ok g ≡ step f i (at xs i) → Shaped (at xs i) → Surveyed xs (i + 1) g
  survey_more g l e n = record {
    used = step_used f g i (at xs i) (sym e) s.used;
    left = walked xs i f (Ok g) l e ∙ s.left;
    shaped = λ q k. elim (cases_lt q i) [
      | inl h ↦ s.shaped q h
      | inr h ↦ subst (λ j. Shaped (at xs j)) (omega arith) n
    ];
  }

  pub survey_stops : (e : Flaw) → i < length xs → Err e ≡ step f i (at xs i) → Err e ≡ surveyed xs
  unfolding surveyed walk
  survey_stops e l h = let w = walked xs i f (Err e) l h ∙ s.left in grind arith

  pub survey_ends : i ≡ length xs → Ok f.used ≡ surveyed xs
  unfolding surveyed walk
  survey_ends h = let w = s.left in let d = drop_all i xs (omega arith) in grind arith
