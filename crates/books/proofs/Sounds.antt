-- What is kept stays what a book can keep.
use Rattle.std.proofs.Common.{◌≡◌, ℕ, zero, suc, true, ◌<◌, ◌≤◌, List, [], ◌∷◌, length, refl, nat_lt, ◌==◌, get_or}
use Rattle.std.proofs.lemmas.Bool.{cond_both}
use Rattle.std.proofs.Math.ListN.{replicate}
use Rattle.std.specs.List.{AllByRecursion}
use Rattle.amounts.specs.Triples.{none}
use Rattle.books.specs.declared.place.Place.{Place}
use Rattle.books.specs.Places.{blank, zeros, in_range}
use Rattle.books.specs.Kept.{Kept, entry_in, put_in, cut_in, put, cut}
use Rattle.books.specs.Laws.{Rising, SoundPlace, Sound}
use Rattle.books.proofs.Entries.{put_rises}

-- the amounts of an entity are as many as there are entities, and in their range
pub record Amounted (x : Place) : Type 0 where
  pub long : length x.amounts ≡ 64
  pub ranged : (q : ℕ) → in_range (get_or x.amounts q none) ≡ true

replicate_none : (n q : ℕ) → get_or (replicate n none) q none ≡ none
replicate_none zero q = refl
replicate_none (suc n) zero = refl
replicate_none (suc n) (suc q) = replicate_none n q

pub zeros_none : (q : ℕ) → get_or zeros q none ≡ none
zeros_none q = replicate_none 64 q

pub blank_amounted : (d : ℕ) → Amounted (blank d)
blank_amounted d = record { long = refl; ranged = λ q. let h = zeros_none q in rw h refl }

pub entry_amounted : (d : ℕ) (xs : List Place) → AllByRecursion SoundPlace xs → Amounted (entry_in d xs)
entry_amounted d [] a = blank_amounted d
entry_amounted d (x ∷ xs) a =
    cond_both (nat_lt x.day d) _ _ Amounted (λ t. entry_amounted d xs a.1)
    (λ f. cond_both (x.day == d) _ _ Amounted (λ t. record { long = a.0.long; ranged = a.0.ranged }) (λ f'. blank_amounted d))

pub put_each : (y : Place) (xs : List Place) → SoundPlace y → AllByRecursion SoundPlace xs → AllByRecursion SoundPlace (put_in y xs)
put_each y [] s a = (s, tt)
put_each y (x ∷ xs) s a =
    cond_both (nat_lt x.day y.day) _ _ (AllByRecursion SoundPlace) (λ t. (a.0, put_each y xs s a.1))
    (λ f. cond_both (x.day == y.day) _ _ (AllByRecursion SoundPlace) (λ t. (s, a.1)) (λ f'. (s, a)))

pub cut_each : (d : ℕ) (xs : List Place) → AllByRecursion SoundPlace xs → AllByRecursion SoundPlace (cut_in d xs)
cut_each d [] a = tt
cut_each d (x ∷ xs) a =
    cond_both (nat_lt x.day d) _ _ (AllByRecursion SoundPlace) (λ t. (a.0, cut_each d xs a.1))
    (λ f. cond_both (x.day == d) _ _ (AllByRecursion SoundPlace) (λ t. a.1) (λ f'. a))

cut_above : (b d : ℕ) (xs : List Place) → AllByRecursion (λ z. b < z.day) xs → AllByRecursion (λ z. b < z.day) (cut_in d xs)
cut_above b d [] a = tt
cut_above b d (x ∷ xs) a =
    cond_both (nat_lt x.day d) _ _ (AllByRecursion (λ z. b < z.day)) (λ t. (a.0, cut_above b d xs a.1))
    (λ f. cond_both (x.day == d) _ _ (AllByRecursion (λ z. b < z.day)) (λ t. a.1) (λ f'. a))

pub cut_rises : (d : ℕ) (xs : List Place) → Rising xs → Rising (cut_in d xs)
cut_rises d [] r = tt
cut_rises d (x ∷ xs) r =
    cond_both (nat_lt x.day d) _ _ Rising (λ t. (cut_above x.day d xs r.0, cut_rises d xs r.1))
    (λ f. cond_both (x.day == d) _ _ Rising (λ t. r.1) (λ f'. r))

-- a day that is held, or for which there is room
pub put_sound : (k : Kept) (y : Place) → Sound k → SoundPlace y → length (put_in y k.held) ≤ k.places → Sound (put k y)
put_sound k y s p l = record { few = s.few; fits = l; rising = put_rises y k.held s.rising; each = put_each y k.held p s.each }

pub cut_sound : (k : Kept) (d : ℕ) → Sound k → length (cut_in d k.held) ≤ k.places → Sound (cut k d)
cut_sound k d s l = record { few = s.few; fits = l; rising = cut_rises d k.held s.rising; each = cut_each d k.held s.each }
