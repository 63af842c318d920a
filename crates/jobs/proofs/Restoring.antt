-- A refused job leaves what a book keeps as it was.
use Rattle.std.proofs.Common.{◌≡◌, ℕ, ◌≤◌, Bool, true, false, List, [], ◌∷◌, Ok, Err, Result, refl, sym, ap, ◌∙◌, subst, arith}
use Rattle.terms.specs.Told.{fine}
use Rattle.terms.specs.Limits.{last_day}
use Rattle.amounts.specs.declared.row.Amounts.{Amounts}
use Rattle.books.specs.declared.place.Place.{Place}
use Rattle.books.specs.declared.refusal.BookRefusal.{BookRefusal}
use Rattle.books.specs.declared.refusal.BookRefusal.TheVariants.{OutOfRange, Reserved, Full, NotReserved}
use Rattle.books.specs.Places.{marked}
use Rattle.books.specs.Kept.{Kept, entry_in, holds_in, put_in, cut_in, entry, holds, put, cut}
use Rattle.books.specs.Calls.{reserving, lifting}
use Rattle.books.specs.Laws.{Sound}
use Rattle.books.specs.Refusals.{numbered as book_numbered}
use Rattle.books.proofs.Entries.{entry_day, put_there, held_taken}
use Rattle.accounts.specs.declared.refusal.PostRefusal.{PostRefusal}
use Rattle.accounts.specs.declared.refusal.PostRefusal.TheVariants.{NotReserved as NoReservation, OtherDay, TooShort, FewRows}
use Rattle.accounts.specs.Refusals.{numbered as post_numbered, told as post_told}
use Rattle.accounts.specs.Slips.{given}
use Rattle.runs.specs.Sheets.{Said}
use Rattle.accounts.specs.Postings.{posting}
use Rattle.accounts.proofs.Keeping.{slip_day}

-- a held day that is put over, and then put back
put_back : (d : ℕ) (y : Place) (xs : List Place) → y.day ≡ d → holds_in d xs ≡ true → put_in (entry_in d xs) (put_in y xs) ≡ xs
put_back d y [] e h = grind arith
put_back d y (x ∷ xs) e h = let g = put_back d y xs e in let m = entry_day d xs in grind arith

-- a day that was not held, put and then cut
cut_back : (d : ℕ) (y : Place) (xs : List Place) → y.day ≡ d → holds_in d xs ≡ false → cut_in d (put_in y xs) ≡ xs
cut_back d y [] e h = grind arith
cut_back d y (x ∷ xs) e h = let g = cut_back d y xs e in grind arith

marked_back : (x : Place) → x.reserved ≡ false → x.billed ≡ true → marked (marked x true x.billed) false true ≡ x
marked_back x r b = ap (λ z. record { day = x.day; reserved = z; billed = true; amounts = x.amounts }) (sym r) ∙ ap (λ z. record { day = x.day; reserved = x.reserved; billed = z; amounts = x.amounts }) (sym b)

module _ (k : Kept) (d : ℕ) where
  -- what a reservation that is accepted comes to
  record Took : Type 0 where
    pub within : d ≤ last_day
    pub was : (entry k d).reserved ≡ false
    pub after : (reserving k d).after ≡ put k (marked (entry k d) true (entry k d).billed)

  took : (reserving k d).answer ≡ Ok tt → Took
  unfolding reserving
  took h = record { within = grind arith; was = grind arith; after = grind arith }

  kept_by : (e : BookRefusal) → (reserving k d).answer ≡ Err e → (reserving k d).after ≡ k
  unfolding reserving
  kept_by e h = grind arith

  pub not_reserved : (m : Kept) (e : BookRefusal) → book_numbered e ≡ given d (reserving k d).answer → m ≡ (reserving k d).after → m ≡ k
  not_reserved m e so after = after ∙ go (reserving k d).answer refl
    where
      no : (e : BookRefusal) → book_numbered e ≡ fine d → ⊥
      no OutOfRange h = cc
      no Reserved h = cc
      no Full h = cc
      no NotReserved h = cc

      go : (r : Result (Unit {0}) BookRefusal) → (reserving k d).answer ≡ r → (reserving k d).after ≡ k
      go (Ok x) is = absurd (no e (so ∙ ap (given d) is))
      go (Err f) is = kept_by f is

  lifts_billed : (l : Kept) → d ≤ last_day → (entry l d).reserved ≡ true → (entry l d).billed ≡ true → (lifting l d false).after ≡ put l (marked (entry l d) false true)
  unfolding lifting
  lifts_billed l w r b = grind arith

  lifts_cut : (l : Kept) → d ≤ last_day → (entry l d).reserved ≡ true → (entry l d).billed ≡ false → (lifting l d false).after ≡ cut l d
  unfolding lifting
  lifts_cut l w r b = grind arith

  reserved : Place
  reserved = marked (entry k d) true (entry k d).billed

  there : (l : Kept) → l ≡ put k (marked (entry k d) true (entry k d).billed) → entry l d ≡ marked (entry k d) true (entry k d).billed
  there l is =
      let y = marked (entry k d) true (entry k d).billed in
      ap (λ z. entry z d) is ∙ subst (λ z. entry_in z (put_in y k.held) ≡ y) (entry_day d k.held) (put_there y k.held)

  -- a reservation that is lifted as unbilled gives back what was kept before it
  lifted_back : Sound k → (l : Kept) → d ≤ last_day → (entry k d).reserved ≡ false → l ≡ put k (marked (entry k d) true (entry k d).billed) → (lifting l d false).after ≡ k
  lifted_back sound l w was is = go (entry k d).billed refl
    where
      y : Place
      y = marked (entry k d) true (entry k d).billed

      held : holds k d ≡ (entry k d).billed
      held = let t = held_taken d k.held sound.each in grind arith

      go : (b : Bool) → (entry k d).billed ≡ b → (lifting l d false).after ≡ k
      go true b =
          let e = there l is in
          lifts_billed l w (ap (λ z. z.reserved) e) (ap (λ z. z.billed) e ∙ b)
          ∙ ap (λ z. put l (marked z false true)) e
          ∙ ap (λ z. put l z) (marked_back (entry k d) was b)
          ∙ ap (λ z. put z (entry k d)) is
          ∙ ap (λ z. record { places = k.places; held = z }) (put_back d (marked (entry k d) true (entry k d).billed) k.held (entry_day d k.held) (held ∙ b))
      go false b =
          let e = there l is in
          lifts_cut l w (ap (λ z. z.reserved) e) (ap (λ z. z.billed) e ∙ b)
          ∙ ap (λ z. cut z d) is
          ∙ ap (λ z. record { places = k.places; held = z }) (cut_back d (marked (entry k d) true (entry k d).billed) k.held (entry_day d k.held) (held ∙ b))

  module _ (sound : Sound k) (m : Kept) (so : fine d ≡ given d (reserving k d).answer) (after : m ≡ (reserving k d).after) (l : Kept) where
    pub withdrawn : l ≡ (lifting m d false).after → l ≡ k
    withdrawn is = let g = took (slip_day d d (reserving k d).answer so).1 in is ∙ lifted_back sound m g.within g.was (after ∙ g.after)

    module _ (s : Said) (bills : List Amounts) where
      turned : (f : PostRefusal) → (entry m d).reserved ≡ true → (posting m d s bills).answer ≡ Err f → (posting m d s bills).after ≡ (lifting m d false).after
      unfolding posting
      turned f r h = grind arith

      pub not_posted : (e : PostRefusal) → post_numbered e ≡ post_told (posting m d s bills).answer → l ≡ (posting m d s bills).after → l ≡ k
      not_posted e said is = withdrawn (is ∙ go (posting m d s bills).answer refl)
        where
          no : (e : PostRefusal) (c : ℕ) → post_numbered e ≡ fine c → ⊥
          no NoReservation c h = cc
          no OtherDay c h = cc
          no TooShort c h = cc
          no FewRows c h = cc

          go : (r : Result ℕ PostRefusal) → (posting m d s bills).answer ≡ r → (posting m d s bills).after ≡ (lifting m d false).after
          go (Ok c) h = absurd (no e c (said ∙ ap post_told h))
          go (Err f) h = let g = took (slip_day d d (reserving k d).answer so).1 in turned f (ap (λ z. z.reserved) (there m (after ∙ g.after))) h
