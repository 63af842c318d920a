-- Putting a day among the places in use, and cutting one.
use Rattle.std.proofs.Common.{◌≡◌, ℕ, ◌+◌, ◌-◌, true, false, ◌<◌, ◌≤◌, List, length, take, set, sym, subst, inl, inr, ◌∙◌, arith, get_or-take, length-take-le, length-set}
use Rattle.std.proofs.lemmas.Bool.{cases_order, cases_lt}
use Rattle.std.proofs.lemmas.List.{ext_get_or}
use Rattle.books.specs.declared.place.Place.{Place}
use Rattle.books.specs.declared.seats.Seat.{Seat}
use Rattle.books.specs.Places.{at, free}
use Rattle.books.specs.Kept.{holds_in, put_in, cut_in}
use Rattle.books.specs.Tests.{rises, is_sound, all_sound}
use Rattle.books.specs.Stores.{Opened, Closed}
use Rattle.books.specs.Seats.{before, SeatOf}
use Rattle.books.proofs.Entries.{put_held, put_new, put_rises, cut_held}
use Rattle.books.proofs.Sounds.{put_each, cut_each, cut_rises}
use Rattle.books.proofs.Moving.{set_at}
use Rattle.books.proofs.Seating.{put_at_held, put_at_new, cut_at, before_held, before_le}
use Rattle.books.specs.ShelvesKept.{rising_by, each_by, place_by}
use Rattle.books.proofs.Testing.{rises_by, all_by}

pub put_rising : (y : Place) (hs : List Place) → rises hs ≡ true → rises (put_in y hs) ≡ true
put_rising y hs r = rises_by (put_in y hs) (put_rises y hs (rising_by hs r))

pub put_all : (y : Place) (hs : List Place) → is_sound y ≡ true → all_sound hs ≡ true → all_sound (put_in y hs) ≡ true
put_all y hs s a = all_by (put_in y hs) (put_each y hs (place_by y s) (each_by hs a))

pub cut_rising : (d : ℕ) (hs : List Place) → rises hs ≡ true → rises (cut_in d hs) ≡ true
cut_rising d hs r = rises_by (cut_in d hs) (cut_rises d hs (rising_by hs r))

pub cut_all : (d : ℕ) (hs : List Place) → all_sound hs ≡ true → all_sound (cut_in d hs) ≡ true
cut_all d hs a = all_by (cut_in d hs) (cut_each d hs (each_by hs a))

module _ (xs : List Place) (u : ℕ) (y : Place) (within : u ≤ length xs) where
  -- a held day is put where it stands
  pub take_held : (i : ℕ) → i ≡ before y.day (take u xs) → holds_in y.day (take u xs) ≡ true → take u (set xs i y) ≡ put_in y (take u xs)
  take_held i e h = ext_get_or free (take u (set xs i y)) (put_in y (take u xs)) same each
    where
      n : length (take u xs) ≡ u
      n = length-take-le u xs within

      m : length (take u (set xs i y)) ≡ u
      m = length-take-le u (set xs i y) (rw (length-set xs i y) within)

      same : length (take u (set xs i y)) ≡ length (put_in y (take u xs))
      same = m ∙ sym n ∙ sym (put_held y (take u xs) h)

      each : (q : ℕ) → q < length (take u (set xs i y)) → at (take u (set xs i y)) q ≡ at (put_in y (take u xs)) q
      each q l =
          let k : q < u = rw (sym m) l in
          let b = before_held y.day (take u xs) h in
          let a = get_or-take u (set xs i y) q free k in
          let c = set_at xs i q y (omega (arith, b, n, e, within)) in
          let f = put_at_held y (take u xs) q h in
          let g = get_or-take u xs q free k in
          grind arith

  -- a new day is put where it belongs
  pub take_new : (new : List Place) (i : ℕ) → u < length xs → Opened xs new i (u + 1) y → i ≡ before y.day (take u xs) → holds_in y.day (take u xs) ≡ false → take (u + 1) new ≡ put_in y (take u xs)
  take_new new i r o e h = ext_get_or free (take (u + 1) new) (put_in y (take u xs)) same each
    where
      n : length (take u xs) ≡ u
      n = length-take-le u xs within

      m : length (take (u + 1) new) ≡ u + 1
      m = let l = o.long in length-take-le (u + 1) new (omega (arith, l, r))

      same : length (take (u + 1) new) ≡ length (put_in y (take u xs))
      same = let p = put_new y (take u xs) h in omega (arith, m, n, p)

      -- below the day's place, at it, and above
      low : (q : ℕ) → q < i → at (take (u + 1) new) q ≡ at (put_in y (take u xs)) q
      low q k =
          let b = before_le y.day (take u xs) in
          let a = get_or-take (u + 1) new q free (omega (arith, k, b, n, e)) in
          let f = put_at_new y (take u xs) q h in
          let g = get_or-take u xs q free (omega (arith, k, b, n, e)) in
          let o1 = o.below q k in
          grind arith

      here : at (take (u + 1) new) i ≡ at (put_in y (take u xs)) i
      here =
          let b = before_le y.day (take u xs) in
          let a = get_or-take (u + 1) new i free (omega (arith, b, n, e)) in
          let f = put_at_new y (take u xs) i h in
          let o2 = o.there (omega (arith, b, n, e)) in
          grind arith

      high : (r : ℕ) → i ≤ r → r < u → at (take (u + 1) new) (r + 1) ≡ at (put_in y (take u xs)) (r + 1)
      high r k l =
          let a = get_or-take (u + 1) new (r + 1) free (omega (arith, l)) in
          let f = put_at_new y (take u xs) (r + 1) h in
          let g = get_or-take u xs r free l in
          let o3 = o.moved r k (omega (arith, l)) in
          grind arith

      each : (q : ℕ) → q < length (take (u + 1) new) → at (take (u + 1) new) q ≡ at (put_in y (take u xs)) q
      each q l =
          elim (cases_order q i) [
            | inl e' ↦ subst (λ z. at (take (u + 1) new) z ≡ at (put_in y (take u xs)) z) (sym e') here
            | inr o' ↦ elim o' [
              | inl k ↦ low q k
              | inr k ↦ subst (λ z. at (take (u + 1) new) z ≡ at (put_in y (take u xs)) z) (succ k) (high (q - 1) (omega (arith, k)) (omega (arith, k, l, m)))
            ]
          ]
        where
          succ : i < q → q - 1 + 1 ≡ q
          succ k = omega (arith, k)

  pub free_held : ((q : ℕ) → u ≤ q → at xs q ≡ free) → (i : ℕ) → i < u → (q : ℕ) → u ≤ q → at (set xs i y) q ≡ free
  free_held f i l q m = let h = f q m in let s = set_at xs i q y (omega (arith, l, within)) in grind arith

  pub free_new : ((q : ℕ) → u ≤ q → at xs q ≡ free) → (new : List Place) (i : ℕ) → Opened xs new i (u + 1) y → (q : ℕ) → u + 1 ≤ q → at new q ≡ free
  free_new f new i o q m = o.above q m ∙ f q (omega (arith, m))

-- a day's seat lies among the places in use
pub seat_within : (d : ℕ) (xs : List Place) (u : ℕ) (s : Seat) → u ≤ length xs → SeatOf d (take u xs) s → s.index ≤ u
seat_within d xs u s l t = let b = before_le d (take u xs) in let n = length-take-le u xs l in let e = t.index in omega (arith, b, n, e)

pub seat_below : (d : ℕ) (xs : List Place) (u : ℕ) (s : Seat) → u ≤ length xs → SeatOf d (take u xs) s → s.is_held ≡ true → s.index < u
seat_below d xs u s l t h =
    let b = before_held d (take u xs) (sym t.held ∙ h) in
    let n = length-take-le u xs l in
    let e = t.index in
    omega (arith, b, n, e)

module _ (xs new : List Place) (u d i : ℕ) (within : u ≤ length xs) (o : Closed xs new i u) (e : i ≡ before d (take u xs)) (h : holds_in d (take u xs) ≡ true) where
  -- a held day is cut
  pub take_cut : take (u - 1) new ≡ cut_in d (take u xs)
  take_cut = ext_get_or free (take (u - 1) new) (cut_in d (take u xs)) same each
    where
      n : length (take u xs) ≡ u
      n = length-take-le u xs within

      b : i < u
      b = let a = before_held d (take u xs) h in omega (arith, a, n, e)

      m : length (take (u - 1) new) ≡ u - 1
      m = let l = o.long in length-take-le (u - 1) new (omega (arith, l, within))

      same : length (take (u - 1) new) ≡ length (cut_in d (take u xs))
      same = let p = cut_held d (take u xs) h in omega (arith, m, n, p, b)

      each : (q : ℕ) → q < length (take (u - 1) new) → at (take (u - 1) new) q ≡ at (cut_in d (take u xs)) q
      each q l =
          let k : q < u - 1 = rw (sym m) l in
          let a = get_or-take (u - 1) new q free k in
          let f = cut_at d (take u xs) q h in
          let g = get_or-take u xs q free (omega (arith, k)) in
          let g' = get_or-take u xs (q + 1) free (omega (arith, k)) in
          elim (cases_lt q i) [
            | inl p ↦ (let o1 = o.below q p in grind arith)
            | inr p ↦ (let o2 = o.moved q p (omega (arith, k)) in grind arith)
          ]

  pub free_cut : ((q : ℕ) → u ≤ q → at xs q ≡ free) → (q : ℕ) → u - 1 ≤ q → at new q ≡ free
  free_cut f q m =
      elim (cases_lt q u) [
        | inl p ↦ o.last q (omega (arith, p, m))
        | inr p ↦ (o.above q p ∙ f q p)
      ]
