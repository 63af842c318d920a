-- What the posting of a file comes to.
use Rattle.std.proofs.Common.{◌≡◌, ◌⊎◌, ℕ, zero, suc, ◌<◌, ◌≤◌, Bool, true, false, nat_lt, ltb, List, length, drop, Ok, Err, None, Result, ℤ, refl, sym, ap, ◌∙◌, subst, arith, inl, inr}
use Rattle.std.proofs.lemmas.Bool.{cond_both}
use Rattle.std.proofs.lemmas.List.{length-drop, length-append, length-replicate}
use Rattle.terms.specs.Told.{Told, fine, refuse}
use Rattle.terms.specs.Limits.{last_interval}
use Rattle.terms.specs.Sources.{Table}
use Rattle.rounding.specs.Rounds.{half_away}
use Rattle.rounding.specs.RoundsKept.{away_near}
use Rattle.amounts.specs.declared.row.Amounts.{Amounts}
use Rattle.amounts.specs.Traces.{shares, entities}
use Rattle.amounts.specs.Triples.{none}
use Rattle.intervals.specs.declared.warning.Warning.{Warning}
use Rattle.intervals.specs.Courses.{course, warning_rows, in_front}
use Rattle.runs.specs.Sheets.{Said, said_of, rows_of}
use Rattle.detfile.specs.Files.{checked}
use Rattle.books.specs.declared.place.Place.{Place}
use Rattle.books.specs.declared.refusal.BookRefusal.{BookRefusal}
use Rattle.books.specs.declared.refusal.BookRefusal.TheVariants.{OutOfRange, Reserved, Full, NotReserved}
use Rattle.books.specs.Places.{marked}
use Rattle.books.specs.Kept.{Kept, entry, holds}
use Rattle.books.specs.Calls.{reserving, lifting}
use Rattle.books.specs.Laws.{Sound, Changed}
use Rattle.books.proofs.Reserving.{reserves}
use Rattle.imagebook.specs.declared.fault.ImageFault.{ImageFault}
use Rattle.imagebook.specs.Images.{image_read, opened, image_of}
use Rattle.imagebook.proofs.Imaging.{imaged, read_exact, read_sound}
use Rattle.accounts.specs.declared.refusal.PostRefusal.{PostRefusal}
use Rattle.accounts.specs.declared.refusal.PostRefusal.TheVariants.{NotReserved as NoReservation, OtherDay, TooShort, FewRows}
use Rattle.accounts.specs.Refusals.{told as post_told}
use Rattle.accounts.specs.Slips.{given}
use Rattle.accounts.specs.Postings.{posting, settled, billed}
use Rattle.accounts.proofs.Wording.{posts}
use Rattle.jobs.specs.Days.{turn, step_by, walked, repeated, run_over, noted}
use Rattle.jobs.specs.Jobs.{job}
use Rattle.jobs.proofs.Walking.{length_repeated, step_from}
use Rattle.jobs.proofs.Restoring.{withdrawn, not_posted}
use Rattle.settlement.specs.declared.dayfile.DayFile.{DayFile}
use Rattle.settlement.specs.declared.bills.Bills.{Bills}
use Rattle.settlement.specs.Tables.{table_of}
use Rattle.settlement.specs.Refusals.{answered, no_book}
use Rattle.settlement.specs.Postings.{no_bills, job_of, run_of, before_of, bills_by, bills_of, left, done, posted}
use Rattle.settlement.specs.Words.{AreBytes, Ready, due, PostsFile}
use Rattle.settlement.proofs.Accepted.{job_goes}
use Rattle.settlement.proofs.Billed.{reserved_within}
use Rattle.settlement.proofs.Opened.{sound_broken, sound_done, posted_checked}

-- one change of a day after another of it is a change of it
changed_again : (k m l : Kept) (d : ℕ) (x y : Place) → Changed k d x m → Changed m d y l → Changed k d y l
changed_again k m l d x y a b = record { places = b.places ∙ a.places; there = b.there; elsewhere = λ e n. b.elsewhere e n ∙ a.elsewhere e n }

posting_rows : (k : Kept) (d : ℕ) (s : Said) (bills : List Amounts) (c : ℕ) → (posting k d s bills).answer ≡ Ok c → (posting k d s bills).bills ≡ billed entities s.totals (entry k d).amounts bills
unfolding posting
posting_rows k d s bills c h = grind arith

-- ---- a day that nothing stops, with room for its warning rows
turn_fine : (t : Table) (y i rows : ℕ) → warning_rows ≤ rows → (course t y i).fault ≡ None → turn t y i rows ≡ fine tt
turn_fine t y i rows room o = grind arith

front_room : (rs ws : List Warning) → warning_rows ≤ length ws → warning_rows ≤ length (in_front rs ws)
front_room rs ws room = let a = length-append rs (drop (length rs) ws) in let b = length-drop (length rs) ws in omega (arith, a, b, room)

noted_room : (t : Table) (y i : ℕ) (ws : List Warning) → warning_rows ≤ length ws → warning_rows ≤ length (noted t y i ws)
noted_room t y i ws room = cond_both (nat_lt (length ws) warning_rows) _ _ (λ us. warning_rows ≤ length us) (λ l. room) (λ l. front_room (course t y i).rows ws room)

record Clear (t : Table) (y : ℕ) (ws : List Warning) (n : ℕ) : Type 0 where
  pub rows : List Warning
  pub is : walked t y ws n ≡ record { told = fine tt; warnings = rows }
  pub room : warning_rows ≤ length rows

clear : (t : Table) (y : ℕ) (ws : List Warning) → ((i : ℕ) → 1 ≤ i → i ≤ last_interval → (course t y i).fault ≡ None) → (n : ℕ) → n ≤ last_interval → warning_rows ≤ length ws → Clear t y ws n
unfolding walked
clear t y ws never zero le room = record { rows = ws; is = refl; room = room }
clear t y ws never (suc n) le room =
    let b = clear t y ws never n (omega (arith, le)) room in
    record {
      rows = noted t y (suc n) b.rows;
      is = rw b.is (ap (λ z. record { told = z; warnings = noted t y (suc n) b.rows }) (turn_fine t y (suc n) (length b.rows) b.room (never (suc n) (omega arith) le)));
      room = noted_room t y (suc n) b.rows b.room;
    }

-- and the other way round
turn_faultless : (t : Table) (y i rows : ℕ) → turn t y i rows ≡ fine tt → (course t y i).fault ≡ None
turn_faultless t y i rows e = grind arith

turn_room : (t : Table) (y i rows : ℕ) → turn t y i rows ≡ fine tt → warning_rows ≤ rows
turn_room t y i rows e = grind arith

or_last : (P : ℕ → Type 0) (n i : ℕ) → i ≤ suc n → (i ≤ n → P i) → P (suc n) → P i
or_last P n i le below last = go (ltb n i) refl
  where
    go : (b : Bool) → ltb n i ≡ b → P i
    go true is = let same : suc n ≡ i = grind arith in subst P same last
    go false is = below (grind arith)

room_of : (t : Table) (y : ℕ) (ws : List Warning) (n : ℕ) → (walked t y ws (suc n)).told ≡ fine tt → warning_rows ≤ length ws
unfolding walked
room_of t y ws zero e = turn_room t y 1 (length ws) e
room_of t y ws (suc n) e = room_of t y ws n (step_from t y ws (suc (suc n)) (walked t y ws (suc n)) (walked t y ws (suc n)).told refl e)

unstopped_of : (t : Table) (y : ℕ) (ws : List Warning) (n : ℕ) → (walked t y ws n).told ≡ fine tt → (i : ℕ) → 1 ≤ i → i ≤ n → (course t y i).fault ≡ None
unfolding walked
unstopped_of t y ws zero e i one le = absurd (omega (arith, one, le))
unstopped_of t y ws (suc n) e i one le =
    let before = step_from t y ws (suc n) (walked t y ws n) (walked t y ws n).told refl e in
    let now = turn_faultless t y (suc n) _ (sym (ap (λ z. (step_by t y (suc n) (walked t y ws n) z).told) before) ∙ e) in
    or_last (λ j. (course t y j).fault ≡ None) n i le (unstopped_of t y ws n before i one) now

was_free : (k : Kept) (d : ℕ) → (reserving k d).answer ≡ Ok tt → (entry k d).reserved ≡ false
unfolding reserving
was_free k d h = grind arith

place_left : (k : Kept) (d : ℕ) → (reserving k d).answer ≡ Ok tt → holds k d ≡ false → length k.held < k.places
unfolding reserving
place_left k d h absent = grind arith

had_place : (k : Kept) (d : ℕ) → (reserving k d).answer ≡ Ok tt → (holds k d ≡ true) ⊎ (length k.held < k.places)
had_place k d h = go (holds k d) refl
  where
    go : (b : Bool) → holds k d ≡ b → (holds k d ≡ true) ⊎ (length k.held < k.places)
    go true is = inl is
    go false is = inr (place_left k d h is)

-- ---- a job
module _ (rd : ℤ → ℕ → ℤ) (t : Table) (d : ℕ) (bills : List Amounts) (ws : List Warning) (k : Kept) where
  -- a job whose day is reserved, and worked to its end
  pub record Worked : Type 0 where
    pub reserved : (reserving k d).answer ≡ Ok tt
    pub walked_all : (walked t d ws last_interval).told ≡ fine tt

  module _ (w : Worked) where
    posted_answer : (job rd t d bills ws k).answer ≡ post_told (posting (reserving k d).after d (said_of (run_over d rd last_interval t)) bills).answer
    unfolding job
    posted_answer = rw (w.reserved, w.walked_all) refl

    posted_kept : (job rd t d bills ws k).kept ≡ (posting (reserving k d).after d (said_of (run_over d rd last_interval t)) bills).after
    unfolding job
    posted_kept = rw (w.reserved, w.walked_all) refl

    posted_bills : (job rd t d bills ws k).bills ≡ (posting (reserving k d).after d (said_of (run_over d rd last_interval t)) bills).bills
    unfolding job
    posted_bills = rw (w.reserved, w.walked_all) refl

  refused_by : (e : BookRefusal) (c : ℕ) → (reserving k d).answer ≡ Err e → (job rd t d bills ws k).answer ≡ fine c → ⊥
  unfolding job
  refused_by OutOfRange c is h = (let f = rw is at h in cc)
  refused_by Reserved c is h = (let f = rw is at h in cc)
  refused_by Full c is h = (let f = rw is at h in cc)
  refused_by NotReserved c is h = (let f = rw is at h in cc)

  stopped_by : (n : ℕ) (vs : List ℕ) (c : ℕ) → (reserving k d).answer ≡ Ok tt → (walked t d ws last_interval).told ≡ refuse n vs → (job rd t d bills ws k).answer ≡ fine c → ⊥
  unfolding job
  stopped_by n vs c is o h = (let f = rw (is, o) at h in cc)

  -- a job that is accepted
  worked_by : (c : ℕ) → (job rd t d bills ws k).answer ≡ fine c → Worked
  worked_by c h = go (reserving k d).answer (walked t d ws last_interval).told refl refl
    where
      go : (r : Result (Unit {0}) BookRefusal) (a : Told (Unit {0})) → (reserving k d).answer ≡ r → (walked t d ws last_interval).told ≡ a → Worked
      go (Err e) a is o = absurd (refused_by e c is h)
      go (Ok x) (fine y) is o = record { reserved = is; walked_all = o }
      go (Ok x) (refuse n vs) is o = absurd (stopped_by n vs c is o h)

  post_taken : (r : Result ℕ PostRefusal) (c : ℕ) → post_told r ≡ fine c → r ≡ Ok c
  post_taken (Ok x) c h = cc
  post_taken (Err NoReservation) c h = cc
  post_taken (Err OtherDay) c h = cc
  post_taken (Err TooShort) c h = cc
  post_taken (Err FewRows) c h = cc

  module _ (sound : Sound k) where
    job_changed : (c : ℕ) → (job rd t d bills ws k).answer ≡ fine c → Changed k d (settled d (rows_of entities (run_over d rd last_interval t))) (job rd t d bills ws k).kept
    job_changed c h =
        let w = worked_by c h in
        let p = posts (reserving k d).after d (said_of (run_over d rd last_interval t)) bills in
        let taken = post_taken _ c (sym (posted_answer w) ∙ h) in
        subst (Changed k d _) (sym (posted_kept w)) (changed_again k (reserving k d).after _ d _ _ ((reserves k d sound).changed w.reserved) (p.changed c taken))

    there : Worked → entry (reserving k d).after d ≡ marked (entry k d) true (entry k d).billed
    there w = ((reserves k d sound).changed w.reserved).there

    module _ (w : Worked) (long : entities ≤ length bills) where
      whole : last_interval ≤ length (repeated last_interval t)
      whole = let e = length_repeated last_interval t in omega (arith, e)

      taken : (posting (reserving k d).after d (said_of (run_over d rd last_interval t)) bills).answer ≡ Ok (shares (run_over d rd last_interval t))
      taken = (posts (reserving k d).after d (said_of (run_over d rd last_interval t)) bills).given (ap (λ z. z.reserved) (there w)) refl whole long

      job_taken : (job rd t d bills ws k).answer ≡ fine (shares (run_over d rd last_interval t))
      job_taken = posted_answer w ∙ ap post_told taken

      job_rows : (job rd t d bills ws k).bills ≡ billed entities (rows_of entities (run_over d rd last_interval t)) (entry k d).amounts bills
      job_rows =
          posted_bills w
          ∙ posting_rows (reserving k d).after d (said_of (run_over d rd last_interval t)) bills _ taken
          ∙ ap (λ z. billed entities (rows_of entities (run_over d rd last_interval t)) z.amounts bills) (there w)

    kept_refused : (e : BookRefusal) → (reserving k d).answer ≡ Err e → (job rd t d bills ws k).kept ≡ (reserving k d).after
    unfolding job
    kept_refused OutOfRange is = rw is refl
    kept_refused Reserved is = rw is refl
    kept_refused Full is = rw is refl
    kept_refused NotReserved is = rw is refl

    kept_stopped : (n : ℕ) (vs : List ℕ) → (reserving k d).answer ≡ Ok tt → (walked t d ws last_interval).told ≡ refuse n vs → (job rd t d bills ws k).kept ≡ (lifting (reserving k d).after d false).after
    unfolding job
    kept_stopped n vs is o = rw (is, o) refl

    kept_unposted : (r : Result ℕ PostRefusal) (n : ℕ) (vs : List ℕ) → Worked → (posting (reserving k d).after d (said_of (run_over d rd last_interval t)) bills).answer ≡ r → post_told r ≡ refuse n vs → (job rd t d bills ws k).kept ≡ k
    kept_unposted (Ok c) n vs w p h = absurd (let f : fine c ≡ refuse n vs = h in cc)
    kept_unposted (Err e) n vs w p h = not_posted k d sound (reserving k d).after (sym (ap (given d) w.reserved)) refl _ (said_of (run_over d rd last_interval t)) bills e (sym (ap post_told p)) (posted_kept w)

    -- a refused job leaves the book as it was
    job_back : (n : ℕ) (vs : List ℕ) → (job rd t d bills ws k).answer ≡ refuse n vs → (job rd t d bills ws k).kept ≡ k
    job_back n vs h = go (reserving k d).answer (walked t d ws last_interval).told refl refl
      where
        go : (r : Result (Unit {0}) BookRefusal) (a : Told (Unit {0})) → (reserving k d).answer ≡ r → (walked t d ws last_interval).told ≡ a → (job rd t d bills ws k).kept ≡ k
        go (Err e) a is o = kept_refused e is ∙ (reserves k d sound).refused e is
        go (Ok x) (refuse i us) is o = withdrawn k d sound (reserving k d).after (sym (ap (given d) is)) refl _ (kept_stopped i us is o)
        go (Ok x) (fine y) is o = let w : Worked = record { reserved = is; walked_all = o } in kept_unposted _ n vs w refl (sym (posted_answer w) ∙ h)

-- ---- the posting of a file
no_bills_long : entities ≤ length no_bills
no_bills_long = let e = length-replicate entities none in omega (arith, e)

module _ (f : DayFile) (ws : List Warning) (book : List ℕ) where
  left_by_file : (n : ℕ) (vs : List ℕ) → checked f.bytes.now ≡ refuse n vs → posted f ws book ≡ left f ws book (answered (refuse n vs))
  unfolding posted
  left_by_file n vs is = rw is refl

  left_by_book : (n : ℕ) (e : ImageFault) → checked f.bytes.now ≡ fine n → image_read book ≡ Err e → posted f ws book ≡ left f ws book (no_book e)
  left_by_book n e is broken = posted_checked f ws book n (sym is) ∙ sound_broken f ws book e broken

  done_by : (n u : ℕ) → checked f.bytes.now ≡ fine n → image_read book ≡ Ok u → posted f ws book ≡ done f ws book
  done_by n u is read = posted_checked f ws book n (sym is) ∙ sound_done f ws book u read

  module _ (bytes : AreBytes book) where
    sound_by : (u : ℕ) → image_read book ≡ Ok u → Sound (opened book)
    sound_by u read = read_sound book u bytes read

    -- what the new bytes mean
    means : (u : ℕ) → image_read book ≡ Ok u → opened (done f ws book).book ≡ (job_of f ws (opened book)).kept
    means u read = (imaged (job_of f ws (opened book)).kept (job_goes half_away (λ n d i. away_near n d i) (table_of f) f.day no_bills ws (opened book) (sound_by u read)).sound).back

    done_changed : (u : ℕ) (b : Bills) (a : Told ℕ) → image_read book ≡ Ok u → (job_of f ws (opened book)).answer ≡ a → bills_by a (before_of (entry (opened book) f.day)) (job_of f ws (opened book)).bills ≡ fine b → Changed (opened book) f.day (settled f.day (rows_of entities (run_of f))) (opened (done f ws book).book)
    done_changed u b (fine c) read is h = subst (Changed (opened book) f.day (settled f.day (rows_of entities (run_of f)))) (sym (means u read)) (job_changed half_away (table_of f) f.day no_bills ws (opened book) (sound_by u read) c is)
    done_changed u b (refuse n vs) read is h = absurd (let g : refuse n vs ≡ fine b = h in cc)

    changed : (b : Bills) → (posted f ws book).answer ≡ answered (fine b) → Changed (opened book) f.day (settled f.day (rows_of entities (run_of f))) (opened (posted f ws book).book)
    changed b h = go (checked f.bytes.now) (image_read book) refl refl
      where
        go : (a : Told ℕ) (r : Result ℕ ImageFault) → checked f.bytes.now ≡ a → image_read book ≡ r → Changed (opened book) f.day (settled f.day (rows_of entities (run_of f))) (opened (posted f ws book).book)
        go (refuse n vs) r is read = absurd (let g : answered (refuse n vs) ≡ answered (fine b) = sym (ap (λ o. o.answer) (left_by_file n vs is)) ∙ h in cc)
        go (fine n) (Err e) is read = absurd (let g : no_book e ≡ answered (fine b) = sym (ap (λ o. o.answer) (left_by_book n e is read)) ∙ h in cc)
        go (fine n) (Ok u) is read =
            let e = done_by n u is read in
            let g : answered (bills_of f ws (opened book)) ≡ answered (fine b) = sym (ap (λ o. o.answer) e) ∙ h in
            let i : bills_of f ws (opened book) ≡ fine b = cc in
            subst (λ o. Changed (opened book) f.day (settled f.day (rows_of entities (run_of f))) (opened o.book)) (sym e) (done_changed u b (job_of f ws (opened book)).answer read refl i)

    done_back : (u n : ℕ) (vs : List ℕ) (a : Told ℕ) → image_read book ≡ Ok u → (job_of f ws (opened book)).answer ≡ a → bills_by a (before_of (entry (opened book) f.day)) (job_of f ws (opened book)).bills ≡ refuse n vs → (done f ws book).book ≡ book
    done_back u n vs (fine c) read is h = absurd (let g : fine (record { charged = c; before = before_of (entry (opened book) f.day); rows = (job_of f ws (opened book)).bills }) ≡ refuse n vs = h in cc)
    done_back u n vs (refuse i us) read is h = ap image_of (job_back half_away (table_of f) f.day no_bills ws (opened book) (sound_by u read) i us is) ∙ read_exact book u bytes read

    refused : (n : ℕ) (vs : List ℕ) → (posted f ws book).answer ≡ answered (refuse n vs) → (posted f ws book).book ≡ book
    refused n vs h = go (checked f.bytes.now) (image_read book) refl refl
      where
        go : (a : Told ℕ) (r : Result ℕ ImageFault) → checked f.bytes.now ≡ a → image_read book ≡ r → (posted f ws book).book ≡ book
        go (refuse i us) r is read = ap (λ o. o.book) (left_by_file i us is)
        go (fine i) (Err e) is read = ap (λ o. o.book) (left_by_book i e is read)
        go (fine i) (Ok u) is read =
            let e = done_by i u is read in
            let g : answered (bills_of f ws (opened book)) ≡ answered (refuse n vs) = sym (ap (λ o. o.answer) e) ∙ h in
            let j : bills_of f ws (opened book) ≡ refuse n vs = cc in
            ap (λ o. o.book) e ∙ done_back u n vs (job_of f ws (opened book)).answer read refl j

    unread : (e : ImageFault) → (posted f ws book).answer ≡ no_book e → (posted f ws book).book ≡ book
    unread e h = go (checked f.bytes.now) (image_read book) refl refl
      where
        go : (a : Told ℕ) (r : Result ℕ ImageFault) → checked f.bytes.now ≡ a → image_read book ≡ r → (posted f ws book).book ≡ book
        go (refuse i us) r is read = ap (λ o. o.book) (left_by_file i us is)
        go (fine i) (Err e) is read = ap (λ o. o.book) (left_by_book i e is read)
        go (fine i) (Ok u) is read = absurd (let g : answered (bills_of f ws (opened book)) ≡ no_book e = sym (ap (λ o. o.answer) (done_by i u is read)) ∙ h in cc)

    worked : Ready f ws book → Worked half_away (table_of f) f.day no_bills ws (opened book)
    worked r = record {
      reserved = (reserves (opened book) f.day (sound_by r.days r.read)).given r.day r.unreserved r.place;
      walked_all = ap (λ w. w.told) (clear (table_of f) f.day ws r.unstopped last_interval (omega arith) r.room).is;
    }

    posted_ready : Ready f ws book → (posted f ws book).answer ≡ answered (fine (due f ws book))
    posted_ready r =
        let s = sound_by r.days r.read in
        let w = worked r in
        let k = opened book in
        ap (λ o. o.answer) (done_by r.lines r.days r.sound r.read)
        ∙ ap (λ a. answered (bills_by a (before_of (entry k f.day)) (job_of f ws k).bills)) (job_taken half_away (table_of f) f.day no_bills ws k s w no_bills_long)
        ∙ ap (λ rows. answered (bills_by (fine (shares (run_of f))) (before_of (entry k f.day)) rows)) (job_rows half_away (table_of f) f.day no_bills ws k s w no_bills_long)

    ready_by : (n u : ℕ) (b : Bills) (a : Told ℕ) → checked f.bytes.now ≡ fine n → image_read book ≡ Ok u → (job_of f ws (opened book)).answer ≡ a → bills_by a (before_of (entry (opened book) f.day)) (job_of f ws (opened book)).bills ≡ fine b → Ready f ws book
    ready_by n u b (fine c) is read said h =
        let w = worked_by half_away (table_of f) f.day no_bills ws (opened book) c said in
        record {
          lines = n;
          sound = is;
          days = u;
          read = read;
          day = reserved_within (opened book) f.day w.reserved;
          unreserved = was_free (opened book) f.day w.reserved;
          place = had_place (opened book) f.day w.reserved;
          room = room_of (table_of f) f.day ws 95 w.walked_all;
          unstopped = unstopped_of (table_of f) f.day ws last_interval w.walked_all;
        }
    ready_by n u b (refuse i us) is read said h = absurd (let g : refuse i us ≡ fine b = h in cc)

    needed : (b : Bills) → (posted f ws book).answer ≡ answered (fine b) → Ready f ws book
    needed b h = go (checked f.bytes.now) (image_read book) refl refl
      where
        go : (a : Told ℕ) (r : Result ℕ ImageFault) → checked f.bytes.now ≡ a → image_read book ≡ r → Ready f ws book
        go (refuse n vs) r is read = absurd (let g : answered (refuse n vs) ≡ answered (fine b) = sym (ap (λ o. o.answer) (left_by_file n vs is)) ∙ h in cc)
        go (fine n) (Err e) is read = absurd (let g : no_book e ≡ answered (fine b) = sym (ap (λ o. o.answer) (left_by_book n e is read)) ∙ h in cc)
        go (fine n) (Ok u) is read =
            let g : answered (bills_of f ws (opened book)) ≡ answered (fine b) = sym (ap (λ o. o.answer) (done_by n u is read)) ∙ h in
            let i : bills_of f ws (opened book) ≡ fine b = cc in
            ready_by n u b (job_of f ws (opened book)).answer is read refl i

    pub posts_file : PostsFile f ws book
    posts_file = record {
      bad_file = λ n vs is. ap (λ o. o.answer) (left_by_file n vs is);
      bad_book = λ n e is broken. ap (λ o. o.answer) (left_by_book n e is broken);
      taken = posted_ready;
      needed = needed;
      changed = changed;
      refused = refused;
      unread = unread;
    }
