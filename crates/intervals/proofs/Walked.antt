-- The course of the asking, one question after the other.
use Rattle.std.proofs.Common.{◌≡◌, ℕ, zero, suc, ◌+◌, ◌<◌, ◌≤◌, ◌≢◌, List, [], ◌∷◌, ◌++◌, length, get_or, drop, set, ℤ, Some, None, Option, sym, refl, ap, ◌∙◌, add-zero, arith, below_more}
use Rattle.std.proofs.lemmas.List.{at_drop_more, at_drop_all, length-append, get_or-set_same, get_or-set_other}
use Rattle.std.proofs.lemmas.Bool.{cond_both}
use Rattle.terms.specs.declared.determinant.Determinant.{Determinant}
use Rattle.terms.specs.declared.determinant.Determinant.TheVariants.{Owner}
use Rattle.terms.specs.Sources.{Table}
use Rattle.intervals.specs.declared.fault.Cause.{Cause}
use Rattle.intervals.specs.declared.judge.Judgement.{Judgement}
use Rattle.intervals.specs.declared.judge.Judgement.TheVariants.{Taken, Warned, Skipped, Stopped}
use Rattle.intervals.specs.declared.warning.Warning.{Warning}
use Rattle.intervals.specs.Courses.{Course, fault_at, before, opens_hour, rows_for, judged_at, step, walk, resource, of_resource, written, after}
use Rattle.intervals.specs.Askings.{held_as, Kept, place_of}

pub written_append : (ws : List Warning) (n : ℕ) (rs ss : List Warning) → written ws n (rs ++ ss) ≡ written (written ws n rs) (n + length rs) ss
written_append ws n [] ss = ap (λ m. written ws m ss) (sym (add-zero n))
written_append ws n (r ∷ rs) ss =
    written_append (set ws n r) (n + 1) rs ss ∙ ap (λ m. written (written (set ws n r) (n + 1) rs) m ss) (let e : n + 1 + length rs ≡ n + suc (length rs) = omega arith in e)

-- rows written first move the list and the count on
pub after_before : (ws : List Warning) (n : ℕ) (rs : List Warning) (c : Course) → after ws n (before rs c) ≡ after (written ws n rs) (n + length rs) c
after_before ws n rs c =
    let e = written_append ws n rs c.rows in
    let l : n + length (rs ++ c.rows) ≡ n + length rs + length c.rows = let a = length-append rs c.rows in omega arith in
    cc

pub few_rows : (y i u : ℕ) (d : Determinant) (j : Judgement) → length (rows_for y i u d j) ≤ 1
few_rows y i u d (Taken x) = omega arith
few_rows y i u d Warned = cond_both (opens_hour i) _ [] (λ rs. length rs ≤ 1) (λ _. omega arith) (λ _. omega arith)
few_rows y i u d Skipped = omega arith
few_rows y i u d (Stopped c) = omega arith

module _ (t : Table) (y i u : ℕ) where
  kept_step : (d : Determinant) (o : Option ℤ) (c : Course) → step t y i u d (held_as o) c ≡ before (rows_for y i u d (held_as o)) c
  kept_step d None c = refl
  kept_step d (Some x) c = refl

  module _ (ws : List Warning) (n k : ℕ) (lt : k < 11) where
    here : Determinant
    here = get_or of_resource k Owner

    pub walk_here : walk t y i u (drop k of_resource) ≡ step t y i u (get_or of_resource k Owner) (judged_at t y i (get_or of_resource k Owner) u) (walk t y i u (drop (k + 1) of_resource))
    unfolding of_resource
    walk_here = at_drop_more (walk t y i u) of_resource k Owner lt

    -- a figure or a warning: the asking goes on
    pub walk_more : (o : Option ℤ) → judged_at t y i (get_or of_resource k Owner) u ≡ held_as o → after ws n (walk t y i u (drop k of_resource)) ≡ after (written ws n (rows_for y i u (get_or of_resource k Owner) (held_as o))) (n + length (rows_for y i u (get_or of_resource k Owner) (held_as o))) (walk t y i u (drop (k + 1) of_resource))
    walk_more o e =
        ap (after ws n) (walk_here ∙ ap (λ j. step t y i u (get_or of_resource k Owner) j (walk t y i u (drop (k + 1) of_resource))) e ∙ kept_step (get_or of_resource k Owner) o (walk t y i u (drop (k + 1) of_resource)))
        ∙ after_before ws n (rows_for y i u (get_or of_resource k Owner) (held_as o)) (walk t y i u (drop (k + 1) of_resource))

    pub walk_skips : judged_at t y i (get_or of_resource k Owner) u ≡ Skipped → after ws n (walk t y i u (drop k of_resource)) ≡ record { warnings = ws; noted = n; fault = None }
    walk_skips e =
        ap (after ws n) (walk_here ∙ ap (λ j. step t y i u (get_or of_resource k Owner) j (walk t y i u (drop (k + 1) of_resource))) e)
        ∙ ap (λ m. record { warnings = ws; noted = m; fault = None }) (add-zero n)

    pub walk_stops : (c : Cause) → judged_at t y i (get_or of_resource k Owner) u ≡ Stopped c → after ws n (walk t y i u (drop k of_resource)) ≡ record { warnings = ws; noted = n; fault = Some (fault_at c (get_or of_resource k Owner) u) }
    walk_stops c e =
        ap (after ws n) (walk_here ∙ ap (λ j. step t y i u (get_or of_resource k Owner) j (walk t y i u (drop (k + 1) of_resource))) e)
        ∙ ap (λ m. record { warnings = ws; noted = m; fault = Some (fault_at c (get_or of_resource k Owner) u) }) (add-zero n)

    pub kept_more : (xs : List (Option ℤ)) (o : Option ℤ) → length xs ≡ 13 → judged_at t y i (get_or of_resource k Owner) u ≡ held_as o → Kept t y i u k xs → Kept t y i u (k + 1) (set xs k o)
    kept_more xs o long e kept =
        let within : k < length xs = rw long (omega arith) in
        below_more (λ j. judged_at t y i (get_or of_resource j Owner) u ≡ held_as (get_or (set xs k o) j None)) k
        (λ j h. let ne : j ≢ k = λ s. omega arith in rw (get_or-set_other xs k j o None ne) (kept j h))
        (rw (get_or-set_same xs k o None within) e)

  pub walk_whole : resource t y i u ≡ walk t y i u of_resource
  unfolding resource
  walk_whole = refl

  pub walk_ends : (ws : List Warning) (n k : ℕ) → 11 ≤ k → after ws n (walk t y i u (drop k of_resource)) ≡ record { warnings = ws; noted = n; fault = None }
  unfolding of_resource
  walk_ends ws n k le = ap (after ws n) (at_drop_all (walk t y i u) of_resource k le) ∙ ap (λ m. record { warnings = ws; noted = m; fault = None }) (add-zero n)

-- a determinant's figure stands at the place of its question
pub place_is : (k : ℕ) → k < 11 → place_of (get_or of_resource k Owner) ≡ k
unfolding of_resource
place_is zero lt = refl
place_is (suc zero) lt = refl
place_is (suc (suc zero)) lt = refl
place_is (suc (suc (suc zero))) lt = refl
place_is (suc (suc (suc (suc zero)))) lt = refl
place_is (suc (suc (suc (suc (suc zero))))) lt = refl
place_is (suc (suc (suc (suc (suc (suc zero)))))) lt = refl
place_is (suc (suc (suc (suc (suc (suc (suc zero))))))) lt = refl
place_is (suc (suc (suc (suc (suc (suc (suc (suc zero)))))))) lt = refl
place_is (suc (suc (suc (suc (suc (suc (suc (suc (suc zero))))))))) lt = refl
place_is (suc (suc (suc (suc (suc (suc (suc (suc (suc (suc zero)))))))))) lt = refl
place_is (suc (suc (suc (suc (suc (suc (suc (suc (suc (suc (suc k))))))))))) lt = absurd (omega arith)
