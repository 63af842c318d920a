-- A list made element by element.
use Rattle.std.proofs.Common.{◌≡◌, ℕ, zero, suc, ◌+◌, ◌<◌, List, [], ◌∷◌, map, length, get_or, arith, refl, ◌∙◌, subst}
use denote.Param.Members.{Mut, Called}
use Rattle.std.specs.Array.{IsFromFnResult, IsFromFnResultFrom}
use native.Mathlib.Numerals.{unary_clauses}

pub mapped : {X Y : Type 0} (f : X → Y) (ys : List Y) (xs : List X) (d : X) (e : Y) → length ys ≡ length xs → ((i : ℕ) → i < length xs → get_or ys i e ≡ f (get_or xs i d)) → ys ≡ map f xs
mapped f [] [] d e l h = refl
mapped f [] (x ∷ xs) d e l h = grind arith
mapped f (y ∷ ys) [] d e l h = grind arith
mapped f (y ∷ ys) (x ∷ xs) d e l h =
    let first = h 0 (grind arith) in
    let rest = mapped f ys xs d e (grind arith) (λ i k. simp unary_clauses at (h (i + 1) (grind arith))) in
    grind arith

-- what `from_fn` makes, where the closure stays as it is
module _ {F B : Type 0} (g : Mut F (ℕ × Unit {0}) B) (h : ℕ → B) (f : F) (step : (i : ℕ) (y : B) (f' : F) → Called g f (i, tt) y f' → (y ≡ h i) × (f' ≡ f)) where
  made_from : (n k : ℕ) (p : F) (ys : List B) → p ≡ f → IsFromFnResultFrom g p ys k n → (i j : ℕ) (d : B) → k + i ≡ j → i < n → get_or ys j d ≡ h j
  made_from zero k p ys e r i j d a l = absurd (omega arith)
  made_from (suc n) k p ys e (q, y, at, call, rest) zero j d a l =
      let s = step k y q (subst (λ z. Called g z (k, tt) y q) e call) in
      subst (λ z. get_or ys z d ≡ h z) (omega arith) (at.1 d ∙ s.0)
  made_from (suc n) k p ys e (q, y, at, call, rest) (suc i) j d a l =
      let s = step k y q (subst (λ z. Called g z (k, tt) y q) e call) in
      made_from n (k + 1) q ys s.1 rest i j d (omega arith) (omega arith)

pub made : {F B : Type 0} {g : Mut F (ℕ × Unit {0}) B} {f : F} {ys : List B} {n : ℕ} → IsFromFnResult g f ys n → (h : ℕ → B) → ((i : ℕ) (y : B) (f' : F) → Called g f (i, tt) y f' → (y ≡ h i) × (f' ≡ f)) → (i : ℕ) (d : B) → i < n → get_or ys i d ≡ h i
made {g = g} {f = f} {ys = ys} {n = n} r h step i d l = made_from g h f step n 0 f ys refl r.each i i d (omega arith) l
