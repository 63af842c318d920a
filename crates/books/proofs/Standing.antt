-- Places that the survey passes are those of a book, and those of a book pass.
use Rattle.std.proofs.Common.{◌≡◌, ℕ, zero, suc, ◌+◌, ◌-◌, ◌<◌, ◌≤◌, Bool, true, false, ◌&&◌, List, [], ◌∷◌, ◌++◌, length, take, arith, refl, sym, ap, ◌∙◌, nat_le, Ok, Err, None, Result, subst, inl, inr}
use Rattle.std.proofs.lemmas.Bool.{cases_Bool}
use Rattle.std.specs.List.{list_all, AllByRecursion}
use Rattle.std.proofs.Math.ListN.{replicate}
use Rattle.terms.specs.Limits.{last_day}
use Rattle.amounts.specs.declared.row.Amounts.{Amounts}
use Rattle.amounts.specs.Triples.{none}
use Rattle.books.specs.declared.place.Place.{Place}
use Rattle.books.specs.declared.flaw.Flaw.{Flaw}
use Rattle.books.specs.declared.survey.Front.{Front}
use Rattle.books.specs.Places.{free, at, is_taken}
use Rattle.books.specs.Kept.{Kept}
use Rattle.books.specs.Laws.{Rising, SoundPlace, Sound}
use Rattle.books.specs.Stores.{kept_of, laid}
use Rattle.books.specs.ShelvesKept.{sound_of, laid_is}
use Rattle.books.proofs.Testing.{all_ranged_by, rises_by as rises_by_fact}
use Rattle.books.specs.Tests.{rises_from, rises, all_ranged, is_sound, all_sound}
use Rattle.books.specs.Surveys.{Memory, is_none, is_bare, first_out, start, step, walk, used_of, surveyed}

memory_rest : (x : Place) (xs : List Place) → Memory (x ∷ xs) → Memory xs
memory_rest x xs l q h = l (suc q) (omega (arith, h))

-- each day is at least l, and above those before it
abbrev rises_at : ℕ → List Place → Bool
rises_at l [] = true
rises_at l (x ∷ xs) = nat_le l x.day && rises_at (suc x.day) xs

above : (d : ℕ) (xs : List Place) → rises_at (suc d) xs ≡ rises_from d xs
unfolding rises_from
above d [] = refl
above d (x ∷ xs) = let h = above x.day xs in grind arith

rises_by : (l : ℕ) (xs : List Place) → rises_at l xs ≡ true → rises xs ≡ true
rises_by l [] h = refl
rises_by l (x ∷ xs) h = let e = above x.day xs in grind arith

none_is : (a : Amounts) → is_none a ≡ true → a ≡ none
none_is a h = grind arith

all_none : (xs : List Amounts) → list_all is_none xs ≡ true → xs ≡ replicate (length xs) none
all_none [] h = refl
all_none (a ∷ xs) h = let e = none_is a (grind arith) in let g = all_none xs (grind arith) in cc

bare_is : (x : Place) → is_taken x ≡ false → is_bare x ≡ true → length x.amounts ≡ 64 → x ≡ free
bare_is x t b l =
    let e : list_all is_none x.amounts ≡ true = grind arith in
    let n = all_none x.amounts e ∙ ap (λ k. replicate k none) l in
    grind arith

-- ---- after a free place all are free

free_step : (f : Front) (i : ℕ) (x : Place) (xs : List Place) (g : Front) → f.used < i → walk (suc i) (step f i x) xs ≡ Ok g → (step f i x ≡ Ok f) × ((is_taken x ≡ false) × (is_bare x ≡ true))
unfolding step walk
free_step f i x xs g l h = grind arith

-- the walk ends with this front, and all that it passed is free
record AllFree (f g : Front) (xs : List Place) : Type 0 where
  same : g ≡ f
  free : (q : ℕ) → at xs q ≡ free

free_each : (x : Place) (xs : List Place) → x ≡ free → ((q : ℕ) → at xs q ≡ free) → (q : ℕ) → at (x ∷ xs) q ≡ free
free_each x xs e h zero = e
free_each x xs e h (suc q) = h q

all_after : (xs : List Place) (i : ℕ) (f g : Front) → f.used < i → walk i (Ok f) xs ≡ Ok g → Memory xs → AllFree f g xs
unfolding walk
all_after [] i f g l h k = record { same = grind arith; free = λ q. refl }
all_after (x ∷ xs) i f g l h k =
    let s = free_step f i x xs g l h in
    let r = all_after xs (suc i) f g (omega (arith, l)) (ap (λ z. walk (suc i) z xs) (sym s.0) ∙ h) (memory_rest x xs k) in
    record { same = r.same; free = free_each x xs (bare_is x s.1.0 s.1.1 (k 0 (omega arith)).long) r.free }

-- ---- held days in front

first_in : (q : ℕ) (xs : List Amounts) → first_out q xs ≡ None → all_ranged xs ≡ true
unfolding first_out all_ranged
first_in q [] h = refl
first_in q (a ∷ xs) h = let g = first_in (suc q) xs in grind arith

in_first : (q : ℕ) (xs : List Amounts) → all_ranged xs ≡ true → first_out q xs ≡ None
unfolding first_out all_ranged
in_first q [] h = refl
in_first q (a ∷ xs) h = let g = in_first (suc q) xs in grind arith

-- what a walk from the front f to the front g has passed: n held days, then free places
record Stood (f g : Front) (xs : List Place) : Type 0 where
  n : ℕ
  used : g.used ≡ f.used + n
  within : n ≤ length xs
  rising : rises_at f.least (take n xs) ≡ true
  each : all_sound (take n xs) ≡ true
  free : (q : ℕ) → n ≤ q → at xs q ≡ free

-- a place after which the walk goes on is held, sound and the next in order, or free
held_step : (f : Front) (x : Place) (xs : List Place) (g : Front) → is_taken x ≡ true → walk (suc f.used) (step f f.used x) xs ≡ Ok g → (step f f.used x ≡ Ok (record { used = suc f.used; least = suc x.day })) × ((nat_le f.least x.day ≡ true) × (first_out 0 x.amounts ≡ None))
unfolding step walk
held_step f x xs g t h = grind arith

bare_step : (f : Front) (x : Place) (xs : List Place) (g : Front) → is_taken x ≡ false → walk (suc f.used) (step f f.used x) xs ≡ Ok g → (step f f.used x ≡ Ok f) × (is_bare x ≡ true)
unfolding step walk
bare_step f x xs g t h = grind arith

sound_is : (x : Place) → x.day ≤ last_day → is_taken x ≡ true → length x.amounts ≡ 64 → first_out 0 x.amounts ≡ None → is_sound x ≡ true
sound_is x d t l o = let r = first_in 0 x.amounts o in grind arith

free_rest : (x : Place) (xs : List Place) (n : ℕ) → ((q : ℕ) → n ≤ q → at xs q ≡ free) → (q : ℕ) → suc n ≤ q → at (x ∷ xs) q ≡ free
free_rest x xs n h zero l = absurd (omega (arith, l))
free_rest x xs n h (suc q) l = h q (omega (arith, l))

stood : (xs : List Place) (f g : Front) → walk f.used (Ok f) xs ≡ Ok g → Memory xs → Stood f g xs
unfolding walk all_sound
stood [] f g h k = record { n = 0; used = grind arith; within = omega arith; rising = refl; each = refl; free = λ q l. refl }
stood (x ∷ xs) f g h k =
    elim (cases_Bool (is_taken x)) [
      | inl t ↦ (
          let s = held_step f x xs g t h in
          let p : Front = record { used = suc f.used; least = suc x.day } in
          let r = stood xs p g (ap (λ z. walk (suc f.used) z xs) (sym s.0) ∙ h) (memory_rest x xs k) in
          let w = sound_is x (k 0 (omega arith)).day t (k 0 (omega arith)).long s.1.1 in
          record {
            n = suc r.n;
            used = (let u = r.used in omega (arith, u));
            within = (let u = r.within in omega (arith, u));
            rising = (let a = s.1.0 in let b = r.rising in grind arith);
            each = (let b = r.each in grind arith);
            free = free_rest x xs r.n r.free;
          }
          )
      | inr t ↦ (
          let s = bare_step f x xs g t h in
          let r = all_after xs (suc f.used) f g (omega arith) (ap (λ z. walk (suc f.used) z xs) (sym s.0) ∙ h) (memory_rest x xs k) in
          record {
            n = 0;
            used = (let e = r.same in grind arith);
            within = omega arith;
            rising = refl;
            each = refl;
            free = λ q l. free_each x xs (bare_is x t s.1 (k 0 (omega arith)).long) r.free q;
          }
          )
    ]

-- what the survey says of places that it passes
pub record Fit (xs : List Place) (u : ℕ) : Type 0 where
  pub within : u ≤ length xs
  pub rising : rises (take u xs) ≡ true
  pub each : all_sound (take u xs) ≡ true
  pub free : (q : ℕ) → u ≤ q → at xs q ≡ free

-- a walk that ends has so many days in use
record Ended (r : Result Front Flaw) (u : ℕ) : Type 0 where
  front : Front
  is : r ≡ Ok front
  used : front.used ≡ u

ended : (r : Result Front Flaw) (u : ℕ) → used_of r ≡ Ok u → Ended r u
ended (Ok g) u h = record { front = g; is = refl; used = grind arith }
ended (Err e) u h = absurd (grind arith)

pub fit : (xs : List Place) (u : ℕ) → surveyed xs ≡ Ok u → Memory xs → Fit xs u
unfolding surveyed
fit xs u h k =
    let e = ended (walk 0 (Ok start) xs) u h in
    let v = e.used in
    let s = stood xs start e.front e.is k in
    let m : s.n ≡ u = (let w = s.used in omega (arith, w, v)) in
    record {
      within = subst (λ n. n ≤ length xs) m s.within;
      rising = subst (λ n. rises (take n xs) ≡ true) m (rises_by 0 (take s.n xs) s.rising);
      each = subst (λ n. all_sound (take n xs) ≡ true) m s.each;
      free = subst (λ n. (q : ℕ) → n ≤ q → at xs q ≡ free) m s.free;
    }

-- ---- the places of a book pass

none_out : (n : ℕ) → list_all is_none (replicate n none) ≡ true
none_out zero = refl
none_out (suc n) = let h = none_out n in grind arith

free_bare : is_bare free ≡ true
free_bare = none_out 64

free_passes : (f : Front) (i : ℕ) → step f i free ≡ Ok f
unfolding step
free_passes f i = let b = free_bare in grind arith

frees_pass : (n i : ℕ) (f : Front) → walk i (Ok f) (replicate n free) ≡ Ok f
unfolding walk
frees_pass zero i f = refl
frees_pass (suc n) i f = ap (λ z. walk (suc i) z (replicate n free)) (free_passes f i) ∙ frees_pass n (suc i) f

-- a place as the next held day
abbrev next : Front → Place → Front
next f x = record { used = suc f.used; least = suc x.day }

held_passes : (f : Front) (x : Place) → SoundPlace x → nat_le f.least x.day ≡ true → step f f.used x ≡ Ok (next f x)
unfolding step
held_passes f x s l =
    let t = s.taken in
    let o = in_first 0 x.amounts (all_ranged_by x.amounts s.ranged) in
    grind arith

walk_on : (f g : Front) (x : Place) (ys : List Place) → step f f.used x ≡ Ok g → walk f.used (Ok f) (x ∷ ys) ≡ walk (suc f.used) (Ok g) ys
unfolding walk
walk_on f g x ys h = ap (λ z. walk (suc f.used) z ys) h

-- the walk passes these held days, and free places behind them
book_walk : (xs : List Place) (n : ℕ) (f : Front) → rises_at f.least xs ≡ true → AllByRecursion SoundPlace xs → used_of (walk f.used (Ok f) (xs ++ replicate n free)) ≡ Ok (f.used + length xs)
book_walk [] n f r a = ap used_of (frees_pass n f.used f) ∙ ap Ok (omega arith)
book_walk (x ∷ xs) n f r a =
    let h = held_passes f x a.0 (grind arith) in
    ap used_of (walk_on f (next f x) x (xs ++ replicate n free) h) ∙ book_walk xs n (next f x) (grind arith) a.1 ∙ ap Ok (omega arith)

at_zero : (xs : List Place) → Rising xs → rises_at 0 xs ≡ true
at_zero [] r = refl
at_zero (x ∷ xs) r = let h = rises_by_fact (x ∷ xs) r in let e = above x.day xs in grind arith

pub passes : (k : Kept) → Sound k → surveyed (laid k) ≡ Ok (length k.held)
unfolding surveyed
passes k s = book_walk k.held (k.places - length k.held) start (at_zero k.held s.rising) s.each ∙ ap Ok (omega arith)

pub sound : (xs : List Place) (u : ℕ) → Memory xs → length xs ≤ 32 → surveyed xs ≡ Ok u → Sound (kept_of xs u)
sound xs u m l h = let f = fit xs u h m in sound_of xs u l f.within f.rising f.each

pub places : (xs : List Place) (u : ℕ) → Memory xs → surveyed xs ≡ Ok u → laid (kept_of xs u) ≡ xs
places xs u m h = let f = fit xs u h m in laid_is xs u f.within f.free
