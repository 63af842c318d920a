-- The asking keeps its words: its course is that of its questions, one after the other.
use Rattle.std.proofs.Common.{◌≡◌, ℕ, zero, suc, ◌+◌, ◌≤◌, Bool, true, false, cond, eqb, ◌&&◌, ◌⊎◌, inl, inr, List, [], ◌∷◌, ◌++◌, length, take, map, ℤ, nat_abs, Some, None, Option, sym, refl, ap, ◌∙◌, subst, append_assoc, arith}
use Rattle.std.specs.List.{cons_option}
use Rattle.std.proofs.lemmas.List.{append-nil}
use Rattle.std.proofs.lemmas.List.Elements.{All-nil, All-cons, All-head, All-tail}
use Rattle.std.proofs.lemmas.Bool.{eq-eqb, ne_eqb}
use Rattle.std.proofs.lemmas.Bool.Decides.{eqb_tells}
use Rattle.terms.specs.declared.answer.Answer.{Answer}
use Rattle.terms.specs.declared.answer.Answer.TheVariants.{NoCut, Null, Figure}
use Rattle.terms.specs.declared.determinant.Determinant.{Determinant}
use Rattle.terms.specs.declared.determinant.Determinant.TheVariants.{Owner, Vssvariol, Lrs, Vssvarpr}
use Rattle.terms.specs.declared.determinant.Missing.{Missing as Rule}
use Rattle.terms.specs.declared.determinant.Missing.TheVariants.{Skip, Zero, Warning as Warns, Stop}
use Rattle.terms.specs.Determinants.{number_of, missing_of, admitted}
use Rattle.terms.specs.Sources.{Table}
use Rattle.amounts.specs.Sums.{add_to}
use Rattle.amounts.specs.Tables.{missing, answer, at}
use Rattle.amounts.specs.Traces.{entities, resources}
use Rattle.intervals.specs.declared.fault.Cause.{Cause}
use Rattle.intervals.specs.declared.fault.Cause.TheVariants.{OutOfRange, Shares}
use Rattle.intervals.specs.declared.fault.Fault.{Fault}
use Rattle.intervals.specs.declared.judge.Judgement.TheVariants.{Taken, Stopped}
use Rattle.intervals.specs.declared.warning.Warning.{Warning}
use Rattle.intervals.specs.Judgements.{wanting, judged}
use Rattle.intervals.specs.Courses.{Course, clear, halted, fault_at, before, next, opens_hour, hour_of, of_resource, step, walk, resource, resources_to, shares_to, summed, course, warning_rows, in_front, written, after}
use Rattle.intervals.specs.Words.{Question, about, in_turn, readings, whole_load, cause_missing, cause_by, warned_of, of_one, share_of, questions, cause_of, IsWhole, warning_of, warnings_of, Causeless, FirstCause, Asking}
use Rattle.intervals.proofs.Rowed.{course_few, written_front, front_rows}

-- ---- one course after another
next_before : (ws : List Warning) (a b : Course) → next (before ws a) b ≡ before ws (next a b)
next_before ws a b = go a.fault a.rows
  where
    go : (o : Option Fault) (rs : List Warning) → next (before ws (record { rows = rs; fault = o })) b ≡ before ws (next (record { rows = rs; fault = o }) b)
    go None rs = ap (λ vs. record { rows = vs; fault = b.fault }) (append_assoc ws rs b.rows)
    go (Some f) rs = refl

next_next : (a b c : Course) → next (next a b) c ≡ next a (next b c)
next_next a b c = go a.fault a.rows
  where
    go : (o : Option Fault) (rs : List Warning) → next (next (record { rows = rs; fault = o }) b) c ≡ next (record { rows = rs; fault = o }) (next b c)
    go None rs = next_before rs b c
    go (Some f) rs = refl

-- rows, and a fault or none
abbrev ended : List Warning → Option Fault → Course
ended rs o = record { rows = rs; fault = o }

-- ---- the course of a list of questions
-- one question with its warning row and its cause, where c is the course of those that follow
abbrev answered : Question → Option Warning → Option Cause → Course → Course
answered q w None c = before (cons_option w []) c
answered q w (Some k) c = halted (fault_at k q.determinant q.unit)

answered_next : (q : Question) (w : Option Warning) (o : Option Cause) (a b : Course) → next (answered q w o a) b ≡ answered q w o (next a b)
answered_next q w None a b = next_before (cons_option w []) a b
answered_next q w (Some k) a b = refl

abbrev skips : Rule → Bool
skips Skip = true
skips Zero = false
skips Warns = false
skips Stop = false

module _ (t : Table) (y i : ℕ) where
  abbrev trail : List Question → Course
  trail [] = clear
  trail (q ∷ qs) = answered q (warning_of t y i q) (cause_of t y i q) (trail qs)

  trail_append : (ps qs : List Question) → trail (ps ++ qs) ≡ next (trail ps) (trail qs)
  trail_append [] qs = refl
  trail_append (p ∷ ps) qs =
      ap (answered p (warning_of t y i p) (cause_of t y i p)) (trail_append ps qs)
      ∙ sym (answered_next p (warning_of t y i p) (cause_of t y i p) (trail ps) (trail qs))

  -- ---- a question, as it is judged
  -- the warning row that an answer asks for
  abbrev warning_by : ℕ → Determinant → Answer → Option Warning
  warning_by u d a = cond (opens_hour i && (missing a && warned_of (missing_of d))) (Some (record { determinant = number_of d; resource = u; day = y; hour = hour_of i })) None

  module _ (u : ℕ) (d : Determinant) (c : Course) where
    abbrev row : Warning
    row = record { determinant = number_of d; resource = u; day = y; hour = hour_of i }

    abbrev row_if : Bool → Option Warning
    row_if b = cond b (Some row) None

    no_row : (o : Bool) → c ≡ before (cons_option (row_if (o && false)) []) c
    no_row true = refl
    no_row false = refl

    one_row : (o : Bool) → before (cond o (row ∷ []) []) c ≡ before (cons_option (row_if (o && true)) []) c
    one_row true = refl
    one_row false = refl

    wanting_step : (r : Rule) → skips r ≡ false → step t y i u d (wanting r) c ≡ answered (about u d) (row_if (opens_hour i && warned_of r)) (cause_missing r) c
    wanting_step Skip n = cc
    wanting_step Zero n = no_row (opens_hour i)
    wanting_step Warns n = one_row (opens_hour i)
    wanting_step Stop n = refl

    number_step : (x : ℤ) (b : Bool) → step t y i u d (cond b (Taken x) (Stopped OutOfRange)) c ≡ answered (about u d) (row_if (opens_hour i && false)) (cond b None (Some OutOfRange)) c
    number_step x true = no_row (opens_hour i)
    number_step x false = refl

    judged_step : (a : Answer) → skips (missing_of d) ≡ false → step t y i u d (judged d a) c ≡ answered (about u d) (warning_by u d a) (cause_by d a) c
    judged_step NoCut n = wanting_step (missing_of d) n
    judged_step Null n = wanting_step (missing_of d) n
    judged_step (Figure x) n = number_step x (admitted d x)

  no_course : (u : ℕ) (d : Determinant) (c : Course) (r : Rule) → r ≡ Skip → step t y i u d (wanting r) c ≡ answered (about u d) (row_if u d c (opens_hour i && warned_of r)) (cause_missing r) clear
  no_course u d c Skip n = no_row u d clear (opens_hour i)
  no_course u d c Zero n = cc
  no_course u d c Warns n = cc
  no_course u d c Stop n = cc

  -- a determinant whose missing figure passes the Resource over, where qs are the questions that follow if it is there
  passing_step : (u : ℕ) (d : Determinant) → missing_of d ≡ Skip → (c : Course) (qs : List Question) → c ≡ trail qs → (a : Answer) → step t y i u d (judged d a) c ≡ answered (about u d) (warning_by u d a) (cause_by d a) (trail (cond (missing a) [] qs))
  passing_step u d s c qs e NoCut = no_course u d c (missing_of d) s
  passing_step u d s c qs e Null = no_course u d c (missing_of d) s
  passing_step u d s c qs e (Figure x) = number_step u d c x (admitted d x) ∙ ap (answered (about u d) (row_if u d c (opens_hour i && false)) (cond (admitted d x) None (Some OutOfRange))) e

  -- ---- the parts of an interval
  abbrev Unskipped : List Determinant → Type 0
  Unskipped [] = Unit {0}
  Unskipped (d ∷ ds) = (skips (missing_of d) ≡ false) × Unskipped ds

  walk_trail : (u : ℕ) (ds : List Determinant) → Unskipped ds → walk t y i u ds ≡ trail (map (about u) ds)
  walk_trail u [] n = refl
  walk_trail u (d ∷ ds) n =
      judged_step u d (walk t y i u ds) (answer t y i d u) n.0
      ∙ ap (answered (about u d) (warning_of t y i (about u d)) (cause_of t y i (about u d))) (walk_trail u ds n.1)

  resource_trail : (u : ℕ) → resource t y i u ≡ trail (of_one t y i u)
  unfolding resource of_resource readings
  resource_trail u =
      passing_step u Owner refl (walk t y i u (Vssvariol ∷ readings)) (about u Vssvariol ∷ cond (missing (answer t y i Vssvariol u)) [] (map (about u) readings))
      (passing_step u Vssvariol refl (walk t y i u readings) (map (about u) readings)
      (walk_trail u readings (refl, (refl, (refl, (refl, (refl, (refl, (refl, (refl, (refl, tt)))))))))) (answer t y i Vssvariol u)) (answer t y i Owner u)

  resources_trail : (n : ℕ) → resources_to t y i n ≡ trail (in_turn (of_one t y i) n)
  unfolding resources_to in_turn
  resources_trail zero = refl
  resources_trail (suc n) =
      ap (λ a. next a (resource t y i n)) (resources_trail n) ∙ ap (next (trail (in_turn (of_one t y i) n))) (resource_trail n)
      ∙ sym (trail_append (in_turn (of_one t y i) n) (of_one t y i n))

  shares_trail : (n : ℕ) → shares_to t y i n ≡ trail (in_turn (share_of t y i) n)
  unfolding shares_to in_turn
  shares_trail zero = refl
  shares_trail (suc n) =
      ap (λ a. next a (walk t y i n (Lrs ∷ []))) (shares_trail n) ∙ ap (next (trail (in_turn (share_of t y i) n))) (walk_trail n (Lrs ∷ []) (refl, tt))
      ∙ sym (trail_append (in_turn (share_of t y i) n) (share_of t y i n))

  -- the course is that of all questions, and then of the sum of the shares
  course_trail : course t y i ≡ next (trail (questions t y i)) (summed t y i)
  unfolding course questions
  course_trail =
      let p : Course = walk t y i 0 (Vssvarpr ∷ []) in
      let r : List Question = in_turn (of_one t y i) resources in
      let s : List Question = in_turn (share_of t y i) entities in
      let price : p ≡ trail (about 0 Vssvarpr ∷ []) = walk_trail 0 (Vssvarpr ∷ []) (refl, tt) in
      let parts : trail (questions t y i) ≡ next p (next (trail r) (trail s)) = trail_append (about 0 Vssvarpr ∷ []) (r ++ s) ∙ ap (λ a. next a (trail (r ++ s))) (sym price) ∙ ap (next p) (trail_append r s) in
      ap (next p) (ap (λ a. next a (next (shares_to t y i entities) (summed t y i))) (resources_trail resources) ∙ ap (λ b. next (trail r) (next b (summed t y i))) (shares_trail entities) ∙ sym (next_next (trail r) (trail s) (summed t y i)))
      ∙ sym (next_next p (next (trail r) (trail s)) (summed t y i))
      ∙ ap (λ a. next a (summed t y i)) (sym parts)

  -- ---- what a list of questions comes to
  abbrev NoCause : Question → Type 0
  NoCause q = cause_of t y i q ≡ None

  causeless_trail : (qs : List Question) → Causeless t y i qs → trail qs ≡ ended (warnings_of t y i qs) None
  causeless_trail [] none = refl
  causeless_trail (q ∷ qs) none =
      ap (λ o. answered q (warning_of t y i q) o (trail qs)) (All-head NoCause q qs none)
      ∙ ap (before (cons_option (warning_of t y i q) [])) (causeless_trail qs (All-tail NoCause q qs none))
      ∙ one (warning_of t y i q) (warnings_of t y i qs)
    where
      one : (w : Option Warning) (rs : List Warning) → ended (cons_option w [] ++ rs) None ≡ ended (cons_option w rs) None
      one None rs = refl
      one (Some w) rs = refl

  -- the questions before the first with a cause, that question, its cause, and those after it
  record Found (qs : List Question) : Type 0 where
    before_it : List Question
    question : Question
    cause : Cause
    after_it : List Question
    place : qs ≡ before_it ++ question ∷ after_it
    causeless : Causeless t y i before_it
    caused : cause_of t y i question ≡ Some cause

  found_trail : (qs : List Question) (f : Found qs) → trail qs ≡ ended (warnings_of t y i f.before_it) (Some (fault_at f.cause f.question.determinant f.question.unit))
  found_trail qs f =
      let q : Question = f.question in
      let h : Course = halted (fault_at f.cause q.determinant q.unit) in
      let stop : trail (q ∷ f.after_it) ≡ h = ap (λ o. answered q (warning_of t y i q) o (trail f.after_it)) f.caused in
      ap trail f.place ∙ trail_append f.before_it (q ∷ f.after_it)
      ∙ ap (λ a. next a (trail (q ∷ f.after_it))) (causeless_trail f.before_it f.causeless)
      ∙ ap (before (warnings_of t y i f.before_it)) stop
      ∙ ap (λ rs. ended rs (Some (fault_at f.cause q.determinant q.unit))) (append-nil (warnings_of t y i f.before_it))

  look : (qs : List Question) → Causeless t y i qs ⊎ Found qs
  look [] = inl (All-nil NoCause)
  look (q ∷ qs) = go (cause_of t y i q) refl (look qs)
    where
      go : (o : Option Cause) → cause_of t y i q ≡ o → Causeless t y i qs ⊎ Found qs → Causeless t y i (q ∷ qs) ⊎ Found (q ∷ qs)
      go (Some k) e rest = inr (record { before_it = []; question = q; cause = k; after_it = qs; place = refl; causeless = All-nil NoCause; caused = e })
      go None e (inl none) = inl (All-cons NoCause q qs e none)
      go None e (inr f) = inr (record { before_it = q ∷ f.before_it; question = f.question; cause = f.cause; after_it = f.after_it; place = ap (λ rs. q ∷ rs) f.place; causeless = All-cons NoCause q f.before_it e f.causeless; caused = f.caused })

  -- ---- the words
  stopped_course : (f : Found (questions t y i)) → course t y i ≡ ended (warnings_of t y i f.before_it) (Some (fault_at f.cause f.question.determinant f.question.unit))
  stopped_course f = course_trail ∙ ap (λ a. next a (summed t y i)) (found_trail (questions t y i) f)

  summed_course : Causeless t y i (questions t y i) → course t y i ≡ before (warnings_of t y i (questions t y i)) (summed t y i)
  summed_course none = course_trail ∙ ap (λ a. next a (summed t y i)) (causeless_trail (questions t y i) none)

  rows_end : (rs : List Warning) (o : Option Fault) → before rs (ended [] o) ≡ ended rs o
  rows_end rs o = ap (λ vs. ended vs o) (append-nil rs)

  whole_course : Causeless t y i (questions t y i) → IsWhole t y i → course t y i ≡ ended (warnings_of t y i (questions t y i)) None
  unfolding summed
  whole_course none w =
      summed_course none
      ∙ ap (λ b. before (warnings_of t y i (questions t y i)) (cond b clear (halted (fault_at Shares Lrs 0)))) (eq-eqb _ whole_load w)
      ∙ rows_end (warnings_of t y i (questions t y i)) None

  unshared_course : Causeless t y i (questions t y i) → (IsWhole t y i → ⊥) → course t y i ≡ ended (warnings_of t y i (questions t y i)) (Some (fault_at Shares Lrs 0))
  unfolding summed
  unshared_course none off =
      summed_course none
      ∙ ap (λ b. before (warnings_of t y i (questions t y i)) (cond b clear (halted (fault_at Shares Lrs 0)))) (ne_eqb _ whole_load off)
      ∙ rows_end (warnings_of t y i (questions t y i)) (Some (fault_at Shares Lrs 0))

  -- of a question, no cause is that of the shares
  missing_apart : (r : Rule) → cause_missing r ≡ Some Shares → ⊥
  missing_apart Skip e = cc
  missing_apart Zero e = cc
  missing_apart Warns e = cc
  missing_apart Stop e = cc

  range_apart : (b : Bool) → cond b None (Some OutOfRange) ≡ Some Shares → ⊥
  range_apart true e = cc
  range_apart false e = cc

  cause_apart : (d : Determinant) (a : Answer) → cause_by d a ≡ Some Shares → ⊥
  cause_apart d NoCut e = missing_apart (missing_of d) e
  cause_apart d Null e = missing_apart (missing_of d) e
  cause_apart d (Figure x) e = range_apart (admitted d x) e

  abbrev all_asked : List Question
  all_asked = questions t y i

  abbrev found_of : (ps : List Question) (f : Fault) → FirstCause t y i ps f → Found all_asked
  found_of ps f h = record { before_it = ps; question = about f.unit f.determinant; cause = f.cause; after_it = h.after; place = h.place; causeless = h.causeless; caused = h.cause }

  first_of_found : (f : Found all_asked) → FirstCause t y i f.before_it (fault_at f.cause f.question.determinant f.question.unit)
  first_of_found f = record { after = f.after_it; place = f.place; causeless = f.causeless; cause = f.caused }

  -- the three ways in which the asking may end
  record Whole : Type 0 where
    none : Causeless t y i all_asked
    whole : IsWhole t y i

  record Unshared : Type 0 where
    none : Causeless t y i all_asked
    off : IsWhole t y i → ⊥

  ways : Found all_asked ⊎ (Whole ⊎ Unshared)
  ways = go (look all_asked) (eqb_tells (add_to entities (λ q. nat_abs (at t y i Lrs q))) whole_load)
    where
      go : Causeless t y i all_asked ⊎ Found all_asked → ((eqb (add_to entities (λ q. nat_abs (at t y i Lrs q))) whole_load ≡ true) × IsWhole t y i) ⊎ ((eqb (add_to entities (λ q. nat_abs (at t y i Lrs q))) whole_load ≡ false) × (IsWhole t y i → ⊥)) → Found all_asked ⊎ (Whole ⊎ Unshared)
      go (inr f) w = inl f
      go (inl none) (inl w) = inr (inl (record { none = none; whole = w.1 }))
      go (inl none) (inr w) = inr (inr (record { none = none; off = w.1 }))

  goes_back : (course t y i).fault ≡ None → Causeless t y i all_asked × IsWhole t y i
  goes_back e =
      elim ways [
        | inl f ↦ (let h = sym (ap (λ c. c.fault) (stopped_course f)) ∙ e in cc)
        | inr (inl w) ↦ (w.none, w.whole)
        | inr (inr w) ↦ (let h = sym (ap (λ c. c.fault) (unshared_course w.none w.off)) ∙ e in cc)
      ]

  unshared_back : (course t y i).fault ≡ Some (fault_at Shares Lrs 0) → Causeless t y i all_asked × (IsWhole t y i → ⊥)
  unshared_back e =
      elim ways [
        | inl f ↦ (let h = sym (ap (λ c. c.fault) (stopped_course f)) ∙ e in
            let same : fault_at f.cause f.question.determinant f.question.unit ≡ fault_at Shares Lrs 0 = cc in
            absurd (cause_apart f.question.determinant (answer t y i f.question.determinant f.question.unit) (f.caused ∙ ap (λ x. Some x.cause) same)))
        | inr (inl w) ↦ (let h = sym (ap (λ c. c.fault) (whole_course w.none w.whole)) ∙ e in cc)
        | inr (inr w) ↦ (w.none, w.off)
      ]

  caused : (f : Fault) → (course t y i).fault ≡ Some f → ((before : List Question) × FirstCause t y i before f) ⊎ (f ≡ fault_at Shares Lrs 0)
  caused f e =
      elim ways [
        | inl g ↦ (let h = sym (ap (λ c. c.fault) (stopped_course g)) ∙ e in
            let same : fault_at g.cause g.question.determinant g.question.unit ≡ f = cc in
            inl (g.before_it, subst (FirstCause t y i g.before_it) same (first_of_found g)))
        | inr (inl w) ↦ (let h = sym (ap (λ c. c.fault) (whole_course w.none w.whole)) ∙ e in cc)
        | inr (inr w) ↦ (let h = sym (ap (λ c. c.fault) (unshared_course w.none w.off)) ∙ e in inr cc)
      ]

  rows_all : Causeless t y i all_asked → (course t y i).rows ≡ warnings_of t y i all_asked
  rows_all none = go (eqb_tells (add_to entities (λ q. nat_abs (at t y i Lrs q))) whole_load)
    where
      go : ((eqb (add_to entities (λ q. nat_abs (at t y i Lrs q))) whole_load ≡ true) × IsWhole t y i) ⊎ ((eqb (add_to entities (λ q. nat_abs (at t y i Lrs q))) whole_load ≡ false) × (IsWhole t y i → ⊥)) → (course t y i).rows ≡ warnings_of t y i all_asked
      go (inl w) = ap (λ c. c.rows) (whole_course none w.1)
      go (inr w) = ap (λ c. c.rows) (unshared_course none w.1)

  pub asking : Asking t y i (course t y i)
  asking = record {
    goes = (goes_back, λ h. ap (λ c. c.fault) (whole_course h.0 h.1));
    stops = λ ps f h. ap (λ c. c.fault) (stopped_course (found_of ps f h));
    unshared = (unshared_back, λ h. ap (λ c. c.fault) (unshared_course h.0 h.1));
    caused = caused;
    rows_before = λ ps f h. ap (λ c. c.rows) (stopped_course (found_of ps f h));
    rows_all = rows_all;
  }

  -- ---- what the asking leaves of a list with room for the rows
  pub record Left (ws vs : List Warning) (n : ℕ) (o : Option Fault) : Type 0 where
    pub words : Asking t y i (record { rows = take n vs; fault = o })
    pub fault : o ≡ (course t y i).fault
    pub rows : vs ≡ in_front (course t y i).rows ws
    pub count : n ≡ length (course t y i).rows
    pub few : n ≤ warning_rows

  pub left : (ws vs : List Warning) (n : ℕ) (o : Option Fault) → length ws ≡ warning_rows → record { warnings = vs; noted = n; fault = o } ≡ after ws 0 (course t y i) → Left ws vs n o
  left ws vs n o long e =
      let few = course_few t y i in
      let is : vs ≡ written ws 0 (course t y i).rows = ap (λ a. a.warnings) e in
      let noted : n ≡ 0 + length (course t y i).rows = ap (λ a. a.noted) e in
      let count : n ≡ length (course t y i).rows = omega arith in
      let fault : o ≡ (course t y i).fault = ap (λ a. a.fault) e in
      let r : (course t y i).rows ≡ take n vs = sym (front_rows vs ws (course t y i).rows n (omega arith) is count) in
      record {
        words = subst (Asking t y i) (ap (λ rs. ended rs (course t y i).fault) r ∙ ap (ended (take n vs)) (sym fault)) asking;
        fault = fault;
        rows = written_front vs ws (course t y i).rows (omega arith) is;
        count = count;
        few = omega arith;
      }
