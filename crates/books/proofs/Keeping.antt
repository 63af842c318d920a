-- No call makes of what a book keeps what it cannot keep.
use Rattle.std.proofs.Common.{◌≡◌, ◌⊎◌, ℕ, zero, suc, List, [], ◌∷◌, ◌∙◌, Bool, true, false, ◌||◌, ◌<◌, ◌≤◌, length, arith, sym, subst, refl, get_or, set, inl, inr, length-set}
use Rattle.terms.specs.Limits.{last_day}
use Rattle.amounts.specs.declared.row.Amounts.{Amounts}
use Rattle.amounts.specs.Triples.{none}
use Rattle.books.specs.declared.place.Place.{Place}
use Rattle.books.specs.Places.{marked, replaced, in_range}
use Rattle.std.specs.List.{AllByRecursion}
use Rattle.books.specs.Kept.{Kept, entry_in, entry, holds, put, cut}
use Rattle.books.specs.Calls.{reserving, replacing, lifting}
use Rattle.books.specs.Laws.{Sound, SoundPlace}
use Rattle.books.proofs.Entries.{entry_day, held_taken, put_held, put_new, cut_held}
use Rattle.books.proofs.Sounds.{entry_amounted, put_sound, cut_sound}

-- a day of which something is kept, with other marks
pub marked_in : (d : ℕ) (xs : List Place) (r b : Bool) → AllByRecursion SoundPlace xs → d ≤ last_day → (r || b) ≡ true → SoundPlace (marked (entry_in d xs) r b)
marked_in d xs r b s l t =
    let m = entry_amounted d xs s in
    record { day = rw (entry_day d xs) l; taken = t; long = m.long; ranged = m.ranged }

set_ranged : (xs : List Amounts) (q : ℕ) (a : Amounts) → ((r : ℕ) → in_range (get_or xs r none) ≡ true) → in_range a ≡ true → (r : ℕ) → in_range (get_or (set xs q a) r none) ≡ true
set_ranged [] q a h t r = h r
set_ranged (x ∷ xs) zero a h t zero = t
set_ranged (x ∷ xs) zero a h t (suc r) = h (suc r)
set_ranged (x ∷ xs) (suc q) a h t zero = h 0
set_ranged (x ∷ xs) (suc q) a h t (suc r) = set_ranged xs q a (λ i. h (suc i)) t r

-- and with another entity's amounts
pub replaced_in : (d : ℕ) (xs : List Place) (q : ℕ) (a : Amounts) → AllByRecursion SoundPlace xs → d ≤ last_day → in_range a ≡ true → (entry_in d xs).reserved ≡ true → SoundPlace (replaced (entry_in d xs) q a)
replaced_in d xs q a s l h t =
    let m = entry_amounted d xs s in
    record {
      day = rw (entry_day d xs) l;
      taken = grind arith;
      long = length-set (entry_in d xs).amounts q a ∙ m.long;
      ranged = set_ranged (entry_in d xs).amounts q a m.ranged h;
    }

put_keeps : (k : Kept) (y : Place) → Sound k → SoundPlace y → (holds k y.day ≡ true) ⊎ (length k.held < k.places) → Sound (put k y)
put_keeps k y s p (inl h) = let l = put_held y k.held h in let f = s.fits in put_sound k y s p (omega (arith, l, f))
put_keeps k y s p (inr m) =
    put_sound k y s p (elim turns [ inl h ↦ (let l = put_held y k.held h in let f = s.fits in omega (arith, l, f)) | inr h ↦ (let l = put_new y k.held h in omega (arith, l, m)) ])
  where
    turns : (holds k y.day ≡ true) ⊎ (holds k y.day ≡ false)
    turns = grind arith

module _ (k : Kept) (d : ℕ) (s : Sound k) where
  -- a day that is reserved, held before or in a place of its own
  record Given : Type 0 where
    pub day : d ≤ last_day
    pub room : (holds k d ≡ true) ⊎ (length k.held < k.places)
    pub after : (reserving k d).after ≡ put k (marked (entry k d) true (entry k d).billed)

  reserving_turns : Given ⊎ ((reserving k d).after ≡ k)
  unfolding reserving
  reserving_turns = grind arith

  pub reserving_sound : Sound (reserving k d).after
  reserving_sound =
      elim reserving_turns [
        | inl g ↦ subst Sound (sym g.after) (put_keeps k _ s (marked_in d k.held true (entry k d).billed s.each g.day refl) (subst (λ z. (holds k z ≡ true) ⊎ (length k.held < k.places)) (sym (entry_day d k.held)) g.room))
        | inr h ↦ subst Sound (sym h) s
      ]

  -- a day whose reservation is lifted
  record Lifted (b : Bool) : Type 0 where
    pub day : d ≤ last_day
    pub reserved : (entry k d).reserved ≡ true
    pub after : ((lifting k d b).after ≡ put k (marked (entry k d) false true)) ⊎ ((lifting k d b).after ≡ cut k d)

  lifting_turns : (b : Bool) → Lifted b ⊎ ((lifting k d b).after ≡ k)
  unfolding lifting
  lifting_turns b = grind arith

  reserved_held : (entry k d).reserved ≡ true → holds k d ≡ true
  reserved_held r = let h = held_taken d k.held s.each in grind arith

  pub lifting_sound : (b : Bool) → Sound (lifting k d b).after
  lifting_sound b =
      elim (lifting_turns b) [
        | inl g ↦
            let h = reserved_held g.reserved in
            let l = cut_held d k.held h in
            let f = s.fits in
            elim g.after [
              | inl e ↦ subst Sound (sym e) (put_keeps k _ s (marked_in d k.held false true s.each g.day refl) (inl (rw (entry_day d k.held) h)))
              | inr e ↦ subst Sound (sym e) (cut_sound k d s (omega (arith, l, f)))
            ]
        | inr h ↦ subst Sound (sym h) s
      ]

  -- an entity whose amounts are replaced
  record Replaced (q : ℕ) (a : Amounts) : Type 0 where
    pub day : d ≤ last_day
    pub ranged : in_range a ≡ true
    pub reserved : (entry k d).reserved ≡ true
    pub after : (replacing k d q a).after ≡ put k (replaced (entry k d) q a)

  replacing_turns : (q : ℕ) (a : Amounts) → Replaced q a ⊎ ((replacing k d q a).after ≡ k)
  unfolding replacing
  replacing_turns q a = grind arith

  pub replacing_sound : (q : ℕ) (a : Amounts) → Sound (replacing k d q a).after
  replacing_sound q a =
      elim (replacing_turns q a) [
        | inl g ↦ subst Sound (sym g.after) (put_keeps k _ s (replaced_in d k.held q a s.each g.day g.ranged g.reserved) (inl (rw (entry_day d k.held) (reserved_held g.reserved))))
        | inr h ↦ subst Sound (sym h) s
      ]
