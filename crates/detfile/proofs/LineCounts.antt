-- The walk that counts the value lines.
use Rattle.std.proofs.Common.{◌≡◌, ℕ, ◌+◌, List, [], ◌∷◌, Some, None, Ok, Err, IsErr, IsErrAnd, Option, MatchOption, Result, sym, refl, ap, ◌∙◌, subst, arith}
use Rattle.std.proofs.lemmas.Result.{err_from_is_err_and}
use denote.Param.Members.{Mut, Called}
use Rattle.std.specs.Iterator.{Yields, YieldsThen, YieldsFirstBy}
use Rattle.std.specs.List.{FoldsTo}
use Rattle.terms.specs.declared.determinant.Determinant.{Determinant}
use Rattle.detfile.specs.declared.lines.Line.{Line}
use Rattle.detfile.specs.declared.lines.Lines.{Lines}
use Rattle.detfile.specs.declared.refusal.FileRefusal.{FileRefusal}
use Rattle.detfile.specs.Keys.{then}
use Rattle.detfile.specs.Values.{line_judged}
use Rattle.detfile.specs.Lines.{ended, unended, line_counted, lines_judged}
use Rattle.detfile.specs.Lines as file
use Rattle.detfile.specs.Walks.{file_line, lines_left}

-- a line that is counted is one more
then_next : (n m : ℕ) (r : Result (Unit {0}) FileRefusal) → then {Y = ℕ} r (λ _. Ok (n + 1)) ≡ Ok m → m ≡ n + 1
then_next n m (Ok x) h = cc
then_next n m (Err e) h = grind arith

pub counted_next : (ks : List Determinant) (n m : ℕ) (l : file.Line) → line_counted ks n l ≡ Ok m → m ≡ n + 1
counted_next ks n m (ended l) h = then_next n m (line_judged ks (n + 2) l) h
counted_next ks n m (unended l) h = grind arith

abbrev steps : Lines → Option Line → Lines → Type 0
steps = YieldsFirstBy file_line lines_left

-- A walk by calls of f: what a call gives, a turn that goes on to a number, and what stands at the end.
module _ (ks : List Determinant) {F E : Type 0} (refusal : E → FileRefusal) (g : Mut F (ℕ × (Line × Unit {0})) (Result ℕ FileRefusal)) (f : F) where
  abbrev Counts : Type 0
  Counts = (n : ℕ) (x : Line) (v : Result ℕ FileRefusal) (q : F) → Called g f (n, (x, tt)) v q → (q ≡ f) × (v ≡ line_counted ks n (file_line x))

  abbrev Turn : F × ℕ → Line → F × ℕ → Type 0
  Turn p x q = (v : Result ℕ FileRefusal) × Called g p.0 (p.1, (x, tt)) v q.0 × (v ≡ Ok q.1)

  abbrev Ends : Result ℕ FileRefusal → F → ℕ → Option Line → Type 0
  Ends r q n o = MatchOption o (r ≡ Ok n) (λ x. (v : Result ℕ FileRefusal) × (h : F) × (e : E) × Called g q (n, (x, tt)) v h × (v ≡ Err (refusal e)) × (IsErr r × IsErrAnd r (λ d. d ≡ refusal e)))

  -- what is left after some lines that were counted is judged as the whole
  counts_on : Counts → (xs : List Line) (p q : F × ℕ) (s t : Lines) → p.0 ≡ f → Yields steps s xs t → FoldsTo Turn p xs q → (q.0 ≡ f) × (lines_judged ks p.1 (lines_left s) ≡ lines_judged ks q.1 (lines_left t))
  counts_on counts [] p q s t h y c = (ap (λ (v : F × ℕ). v.0) (sym c) ∙ h, λ i. lines_judged ks (c i).1 (lines_left (y i)))
  counts_on counts (x ∷ xs) p q s t h y c =
      let one = counts p.1 x c.1.0 c.0.0 (subst (λ w. Called g w (p.1, (x, tt)) c.1.0 c.0.0) h c.1.1) in
      let more = counts_on counts xs c.0 q y.0 t one.0 y.2 c.2 in
      (more.0, ap (lines_judged ks p.1) y.1 ∙ ap (λ r. then r (λ m. lines_judged ks m (lines_left y.0))) (sym one.1 ∙ c.1.2) ∙ more.1)

  ends : Counts → (s t u : Lines) (r : Result ℕ FileRefusal) (xs : List Line) (o : Option Line) (q : F) (n : ℕ) → Yields steps s xs t → steps t o u → FoldsTo Turn (f, 0) xs (q, n) → Ends r q n o → r ≡ lines_judged ks 0 (lines_left s)
  ends counts s t u r xs None q n y l c d =
      let m = counts_on counts xs (f, 0) (q, n) s t refl y c in
      d ∙ ap (lines_judged ks n) (sym l.0) ∙ sym m.1
  ends counts s t u r xs (Some x) q n y l c d =
      let m = counts_on counts xs (f, 0) (q, n) s t refl y c in
      let one = counts n x d.0 d.1 (subst (λ w. Called g w (n, (x, tt)) d.0 d.1) m.0 d.3) in
      let e = err_from_is_err_and r d.5.1 in
      e.1 ∙ ap Err e.2 ∙ ap (λ a. then a (λ k. lines_judged ks k (lines_left u))) (sym d.4 ∙ one.1) ∙ ap (lines_judged ks n) (sym l) ∙ sym m.1

  pub lines_counted : (s u : Lines) (r : Result ℕ FileRefusal)
      → (xs : List Line) × (o : Option Line) × (q : F) × (n : ℕ) × YieldsThen steps s xs o u × FoldsTo Turn (f, 0) xs (q, n) × Ends r q n o
      → Counts → r ≡ lines_judged ks 0 (lines_left s)
  lines_counted s u r d counts = ends counts s d.4.0 u r d.0 d.1 d.2 d.3 d.4.1 d.4.2 d.5 d.6
