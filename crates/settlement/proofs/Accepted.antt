-- What a job does to a book, by the definitions alone: the law of accounts goes on, and what is kept is what a book can keep.
use Rattle.std.proofs.Common.{◌≡◌, ℕ, zero, suc, ◌<◌, ◌≤◌, Bool, true, false, List, ◌∷◌, ◌++◌, length, get_or, ℤ, Some, None, Option, refl, sym, ap, ◌∙◌, subst, arith, ltb}
use Rattle.std.proofs.lemmas.Bool.{cond_both}
use Rattle.std.proofs.lemmas.Int.{ints}
use Rattle.std.proofs.lemmas.List.{get_or_past}
use Rattle.terms.specs.Told.{Told, fine, refuse}
use Rattle.terms.specs.Limits.{last_day, last_interval}
use Rattle.terms.specs.Sources.{Table}
use Rattle.rounding.specs.Rounds.{Lawful}
use Rattle.amounts.specs.declared.row.Amounts.{Amounts}
use Rattle.amounts.specs.Triples.{none, plus}
use Rattle.amounts.specs.Tables.{working}
use Rattle.amounts.specs.Traces.{Trace, amount_over, JudgedOver, entities, resources}
use Rattle.amounts.proofs.Ranged.{fit}
use Rattle.intervals.specs.declared.warning.Warning.{Warning}
use Rattle.intervals.specs.Courses.{course}
use Rattle.runs.specs.Bounds.{Within}
use Rattle.runs.specs.Works.{FaultlessOver}
use Rattle.runs.proofs.Growing.{within_none, amounts_within}
use Rattle.books.specs.Places.{in_range}
use Rattle.books.specs.Kept.{Kept, entry, holds}
use Rattle.books.specs.Calls.{reserving}
use Rattle.books.specs.Laws.{Sound, SoundPlace}
use Rattle.books.proofs.Entries.{held_taken, put_held}
use Rattle.books.proofs.Sounds.{put_sound}
use Rattle.books.proofs.Keeping.{reserving_sound, lifting_sound}
use Rattle.accounts.specs.declared.refusal.PostRefusal.{PostRefusal}
use Rattle.accounts.specs.Slips.{given}
use Rattle.runs.specs.Works.{FaultlessOver}
use Rattle.runs.specs.Sheets.{Said, said_of, rows_of}
use Rattle.runs.proofs.Asking.{judged_over}
use Rattle.runs.proofs.Saying.{length_rows, row_of}
use Rattle.accounts.specs.Postings.{Posted, posting, posted_by, misfit, settled}
use Rattle.accounts.specs.Histories.{History, Accounts, reserves}
use Rattle.accounts.proofs.Keeping.{reserve_law, withdraw_law, slip_day}
use Rattle.accounts.proofs.Posts.{SaidBy, post_law}
use Rattle.jobs.specs.Days.{turn, step_by, walked, repeated, run_over}
use Rattle.jobs.specs.Jobs.{Done, job}
use Rattle.jobs.proofs.Walking.{step_from, length_repeated}
use Rattle.settlement.proofs.Billed.{reserved_within}

within_plus : (n : ℕ) (a b : Amounts) → Within n a → Within 1 b → Within (suc n) (plus a b)
within_plus n a b w v = record { reactive = omega (arith, ints); held = omega (arith, ints); load = omega (arith, ints) }

range_of : (a : Amounts) → Within last_interval a → in_range a ≡ true
range_of a w = grind arith

-- ---- the run of a day whose intervals are all worked
module _ (rd : ℤ → ℕ → ℤ) (lawful : Lawful rd) (t : Table) (d : ℕ) where
  turn_faultless : (i rows : ℕ) → turn t d i rows ≡ fine tt → (course t d i).fault ≡ None
  turn_faultless i rows e = grind arith

  pub run_faultless : (ws : List Warning) (n : ℕ) → (walked t d ws n).told ≡ fine tt → FaultlessOver d (repeated n t)
  unfolding walked FaultlessOver repeated
  run_faultless ws zero e = tt
  run_faultless ws (suc n) e =
      let before = step_from t d ws (suc n) (walked t d ws n) (walked t d ws n).told refl e in
      let now = turn_faultless (suc n) _ (sym (ap (λ z. (step_by t d (suc n) (walked t d ws n) z).told) before) ∙ e) in
      (run_faultless ws n before, subst (λ l. (course t d (suc l)).fault ≡ None) (sym (length_repeated n t)) now)

  within_over : (n q : ℕ) → JudgedOver entities resources d (repeated n t) → q < entities → Within n (amount_over rd resources d (repeated n t) q)
  unfolding JudgedOver repeated amount_over
  within_over zero q j lt = within_none _ 0 refl
  within_over (suc n) q j lt =
      within_plus n _ _ (within_over n q j.0 lt) (amounts_within rd lawful (working t d (suc (length (repeated n t))) rd) (fit rd lawful t d (suc (length (repeated n t))) entities resources j.1) q lt)

  run : Trace
  run = run_over d rd last_interval t

  module _ (never : FaultlessOver d (repeated last_interval t)) where
    judged : JudgedOver entities resources d (repeated last_interval t)
    judged = judged_over d (repeated last_interval t) never

    row_in_range : (q : ℕ) → q < entities → in_range (get_or (rows_of entities (run_over d rd last_interval t)) q none) ≡ true
    row_in_range q lt = ap in_range (row_of entities q (run_over d rd last_interval t) lt) ∙ range_of _ (within_over last_interval q judged lt)

    rows_in_range : (q : ℕ) → in_range (get_or (rows_of entities (run_over d rd last_interval t)) q none) ≡ true
    rows_in_range q = go (ltb q entities) refl
      where
        go : (b : Bool) → ltb q entities ≡ b → in_range (get_or (rows_of entities (run_over d rd last_interval t)) q none) ≡ true
        go true is = row_in_range q (grind arith)
        go false is = ap in_range (get_or_past (rows_of entities (run_over d rd last_interval t)) q none (rw (length_rows entities (run_over d rd last_interval t)) (grind arith)))

    pub place_sound : d ≤ last_day → SoundPlace (settled d (rows_of entities (run_over d rd last_interval t)))
    place_sound within = record { day = within; taken = refl; long = length_rows entities (run_over d rd last_interval t); ranged = rows_in_range }

    pub said_by_run : SaidBy (run_over d rd last_interval t) (said_of (run_over d rd last_interval t))
    said_by_run = record { day = refl; intervals = refl; totals = λ q lt. row_of entities q (run_over d rd last_interval t) lt; charged = refl; faultless = never; accepted = record { lawful = lawful; judged = judged } }

-- ---- what a posting leaves
module _ (k : Kept) (d : ℕ) (s : Said) (bills : List Amounts) (sound : Sound k) (place : SoundPlace (settled d s.totals)) where
  reserved_holds : (entry k d).reserved ≡ true → holds k d ≡ true
  reserved_holds r = let h = held_taken d k.held sound.each in grind arith

  by_misfit : (entry k d).reserved ≡ true → (m : Option PostRefusal) → Sound (posted_by k d s bills m).after
  by_misfit r (Some e) = lifting_sound k d sound false
  by_misfit r None = put_sound k (settled d s.totals) sound place (let l = put_held (settled d s.totals) k.held (reserved_holds r) in let f = sound.fits in omega (arith, l, f))

  pub posting_sound : Sound (posting k d s bills).after
  unfolding posting
  posting_sound = cond_both (entry k d).reserved _ _ (λ (x : Posted). Sound x.after) (λ r. by_misfit r (misfit d s (length bills))) (λ f. sound)

-- ---- what a job leaves
pub record Goes (k : Kept) (j : Done) : Type 0 where
  pub law : (h : History) → Accounts h k → Accounts (j.calls ++ h) j.kept
  pub sound : Sound j.kept

module _ (rd : ℤ → ℕ → ℤ) (lawful : Lawful rd) (t : Table) (d : ℕ) (bills : List Amounts) (ws : List Warning) (k : Kept) (sound : Sound k) where
  reserved_law : (a : Told ℕ) → given d (reserving k d).answer ≡ a → (h : History) → Accounts h k → Accounts (reserves d a ∷ h) (reserving k d).after
  reserved_law a e h law = subst (λ z. Accounts (reserves d z ∷ h) (reserving k d).after) e (reserve_law k d h law)

  by_walked : (x : ℕ) (a : Told (Unit {0})) → given d (reserving k d).answer ≡ fine x → (walked t d ws last_interval).told ≡ a → Goes k (job rd t d bills ws k)
  unfolding job
  by_walked x (fine z) e o =
      let after = reserving_sound k d sound in
      let slip = slip_day d x (reserving k d).answer (sym e) in
      let within = reserved_within k d slip.1 in
      let law = reserved_law (fine d) (e ∙ ap fine slip.0) in
      let never = run_faultless rd lawful t d ws last_interval o in
      rw (e, o) (record {
        law = λ h holds. post_law _ d _ bills (reserves d (fine d) ∷ h) (law h holds) after.rising (run_over d rd last_interval t) (said_by_run rd lawful t d never);
        sound = posting_sound _ d _ bills after (place_sound rd lawful t d never within);
      })
  by_walked x (refuse n vs) e o =
      let after = reserving_sound k d sound in
      let slip = slip_day d x (reserving k d).answer (sym e) in
      let within = reserved_within k d slip.1 in
      let law = reserved_law (fine d) (e ∙ ap fine slip.0) in
      rw (e, o) (record {
        law = λ h holds. withdraw_law _ d (reserves d (fine d) ∷ h) after.rising (law h holds);
        sound = lifting_sound _ d after false;
      })

  by_given : (a : Told ℕ) → given d (reserving k d).answer ≡ a → Goes k (job rd t d bills ws k)
  unfolding job
  by_given (fine x) e = by_walked x (walked t d ws last_interval).told e refl
  by_given (refuse n vs) e = rw e (record { law = reserved_law (refuse n vs) e; sound = reserving_sound k d sound })

  pub job_goes : Goes k (job rd t d bills ws k)
  job_goes = by_given (given d (reserving k d).answer) refl
