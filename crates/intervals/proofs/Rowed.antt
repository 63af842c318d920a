-- How many warning rows an interval can have, and where they stand in a list with room for them.
use Rattle.std.proofs.Common.{◌≡◌, ℕ, zero, suc, ◌+◌, ◌*◌, ◌<◌, ◌≤◌, Bool, true, false, cond, eqb, List, [], ◌∷◌, ◌++◌, length, get_or, take, drop, set, ℤ, nat_abs, Some, None, Option, sym, refl, ap, ◌∙◌, append_assoc, arith}
use Rattle.std.proofs.lemmas.List.{length-append, length_push, set_at}
use Rattle.std.proofs.Math.Seq.{take-append_seam}
use Rattle.std.proofs.lemmas.Bool.{cond_both}
use Rattle.terms.specs.declared.answer.Answer.{Answer}
use Rattle.terms.specs.declared.answer.Answer.TheVariants.{NoCut, Null, Figure}
use Rattle.terms.specs.declared.determinant.Determinant.{Determinant}
use Rattle.terms.specs.declared.determinant.Determinant.TheVariants.{Owner, Lrs, Vssvarpr}
use Rattle.terms.specs.declared.determinant.Missing.{Missing as Rule}
use Rattle.terms.specs.declared.determinant.Missing.TheVariants.{Skip, Zero, Warning as Warns, Stop}
use Rattle.terms.specs.Determinants.{missing_of, admitted}
use Rattle.terms.specs.Sources.{Table}
use Rattle.amounts.specs.Sums.{add_to}
use Rattle.amounts.specs.Tables.{answer, at}
use Rattle.intervals.specs.declared.fault.Fault.{Fault}
use Rattle.intervals.specs.declared.fault.Cause.TheVariants.{OutOfRange, Shares}
use Rattle.intervals.specs.declared.judge.Judgement.{Judgement}
use Rattle.intervals.specs.declared.judge.Judgement.TheVariants.{Taken, Warned, Skipped, Stopped}
use Rattle.intervals.specs.declared.warning.Warning.{Warning}
use Rattle.intervals.specs.Judgements.{wanting, judged}
use Rattle.intervals.specs.Courses.{Course, clear, halted, fault_at, next, rows_for, judged_at, step, walk, of_resource, resource, resources_to, shares_to, summed, course, warning_rows, in_front, written, after}
use Rattle.intervals.proofs.Walked.{few_rows, walk_here}

-- ---- in a list with room
front : (ps ws rs : List Warning) → length rs ≤ length ws → written (ps ++ ws) (length ps) rs ≡ ps ++ (rs ++ drop (length rs) ws)
front ps ws [] le = refl
front ps [] (r ∷ rs) le = absurd (omega arith)
front ps (v ∷ vs) (r ∷ rs) le =
    let p : List Warning = ps ++ r ∷ [] in
    let a : set (ps ++ v ∷ vs) (length ps) r ≡ p ++ vs = set_at ps v vs r (length ps) refl ∙ sym (append_assoc ps (r ∷ []) vs) in
    let l : length ps + 1 ≡ length p = sym (length_push ps r) in
    ap (λ x. written x (length ps + 1) rs) a ∙ ap (λ k. written (p ++ vs) k rs) l ∙ front p vs rs (omega arith) ∙ append_assoc ps (r ∷ []) (rs ++ drop (length rs) vs)

pub written_front : (vs ws rs : List Warning) → length rs ≤ length ws → vs ≡ written ws 0 rs → vs ≡ in_front rs ws
written_front vs ws rs le e = e ∙ front [] ws rs le

pub front_rows : (vs ws rs : List Warning) (n : ℕ) → length rs ≤ length ws → vs ≡ written ws 0 rs → n ≡ length rs → take n vs ≡ rs
front_rows vs ws rs n le e f = ap (take n) (written_front vs ws rs le e) ∙ ap (λ m. take m (rs ++ drop (length rs) ws)) f ∙ take-append_seam rs (drop (length rs) ws)

-- ---- how many there are
by_rule : Rule → ℕ
by_rule Skip = 0
by_rule Zero = 0
by_rule Warns = 1
by_rule Stop = 0

warns : Determinant → ℕ
warns d = by_rule (missing_of d)

warns_in : List Determinant → ℕ
warns_in [] = 0
warns_in (d ∷ ds) = warns d + warns_in ds

wanting_warns : (r : Rule) → wanting r ≡ Warned → 1 ≤ by_rule r
unfolding by_rule
wanting_warns Skip e = grind arith
wanting_warns Zero e = grind arith
wanting_warns Warns e = omega arith
wanting_warns Stop e = grind arith

number_warns : (x : ℤ) (b : Bool) {P : Type 0} → cond b (Taken x) (Stopped OutOfRange) ≡ Warned → P
number_warns x true e = grind arith
number_warns x false e = grind arith

judged_warns : (d : Determinant) (a : Answer) → judged d a ≡ Warned → 1 ≤ warns d
unfolding warns
judged_warns d NoCut e = wanting_warns (missing_of d) e
judged_warns d Null e = wanting_warns (missing_of d) e
judged_warns d (Figure x) e = number_warns x (admitted d x) e

next_few : (a b : Course) (m n : ℕ) → length a.rows ≤ m → length b.rows ≤ n → length (next a b).rows ≤ m + n
next_few a b m n h k = by a.fault a refl h
  where
    by : (o : Option Fault) (c : Course) → c.fault ≡ o → length c.rows ≤ m → length (next c b).rows ≤ m + n
    by None c is l = rw is (let e = length-append c.rows b.rows in omega arith)
    by (Some f) c is l = rw is (omega arith)

module _ (t : Table) (y i : ℕ) where
  walk_few : (u : ℕ) (ds : List Determinant) → length (walk t y i u ds).rows ≤ warns_in ds
  unfolding warns_in
  walk_few u [] = omega arith
  walk_few u (d ∷ ds) = go (walk_few u ds) (judged_at t y i d u) refl
    where
      go : length (walk t y i u ds).rows ≤ warns_in ds → (j : Judgement) → judged_at t y i d u ≡ j → length (step t y i u d j (walk t y i u ds)).rows ≤ warns d + warns_in ds
      go h (Taken x) e = omega arith
      go h Warned e =
          let k = few_rows y i u d Warned in
          let one = judged_warns d (answer t y i d u) e in
          let l = length-append (rows_for y i u d Warned) (walk t y i u ds).rows in
          omega arith
      go h Skipped e = omega arith
      go h (Stopped c) e = omega arith

  pub resource_few : (u : ℕ) → length (resource t y i u).rows ≤ 2
  unfolding resource of_resource warns_in warns by_rule
  resource_few u = walk_few u of_resource

  pub resources_few : (n : ℕ) → length (resources_to t y i n).rows ≤ 2 * n
  unfolding resources_to
  resources_few zero = omega arith
  resources_few (suc n) = let h = next_few (resources_to t y i n) (resource t y i n) (2 * n) 2 (resources_few n) (resource_few n) in omega arith

  -- a row for the question at hand finds room, where there is room for a Resource's two
  pub room : (u : ℕ) (ws : List Warning) (n k : ℕ) → k < 11 → (vs : List Warning) (m : ℕ) → after ws n (walk t y i u (drop k of_resource)) ≡ after vs m (resource t y i u) → m + 2 ≤ warning_rows → n + length (rows_for y i u (get_or of_resource k Owner) (judged_at t y i (get_or of_resource k Owner) u)) ≤ warning_rows
  room u ws n k lt vs m e le =
      let few = resource_few u in
      let counts : n + length (walk t y i u (drop k of_resource)).rows ≡ m + length (resource t y i u).rows = ap (λ a. a.noted) e in
      let here = ap (λ c. length c.rows) (walk_here t y i u ws n k lt) in
      let own = step_rows u (get_or of_resource k Owner) (judged_at t y i (get_or of_resource k Owner) u) (walk t y i u (drop (k + 1) of_resource)) in
      omega arith
    where
      step_rows : (u : ℕ) (d : Determinant) (j : Judgement) (c : Course) → length (rows_for y i u d j) ≤ length (step t y i u d j c).rows
      step_rows u d (Taken x) c = omega arith
      step_rows u d Warned c = let l = length-append (rows_for y i u d Warned) c.rows in omega arith
      step_rows u d Skipped c = omega arith
      step_rows u d (Stopped k) c = omega arith

  shares_few : (n : ℕ) → length (shares_to t y i n).rows ≤ 0
  unfolding shares_to warns_in warns by_rule
  shares_few zero = omega arith
  shares_few (suc n) = next_few (shares_to t y i n) (walk t y i n (Lrs ∷ [])) 0 0 (shares_few n) (walk_few n (Lrs ∷ []))

  summed_few : length (summed t y i).rows ≤ 0
  unfolding summed
  summed_few = cond_both (eqb (add_to 64 (λ q. nat_abs (at t y i Lrs q))) 1000000) clear (halted (fault_at Shares Lrs 0)) (λ c. length c.rows ≤ 0) (λ _. omega arith) (λ _. omega arith)

  -- two for each Resource
  pub course_few : length (course t y i).rows ≤ 256
  unfolding course warns_in warns by_rule
  course_few =
      next_few (walk t y i 0 (Vssvarpr ∷ [])) (next (resources_to t y i 128) (next (shares_to t y i 64) (summed t y i))) 0 256 (walk_few 0 (Vssvarpr ∷ []))
      (next_few (resources_to t y i 128) (next (shares_to t y i 64) (summed t y i)) 256 0 (resources_few 128) (next_few (shares_to t y i 64) (summed t y i) 0 0 (shares_few 64) summed_few))
