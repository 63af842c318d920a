-- What reading comes to.
use Rattle.std.proofs.Common.{◌≡◌, ◌⊎◌, ℕ, false, ◌<◌, ◌≤◌, Ok, Err, arith, ◌∙◌, ap}
use Rattle.terms.specs.Limits.{last_day}
use Rattle.books.specs.declared.refusal.BookRefusal.TheVariants.{OutOfRange}
use Rattle.books.specs.Places.{at}
use Rattle.books.specs.Kept.{Kept, entry}
use Rattle.books.specs.Calls.{account, reading}
use Rattle.books.specs.Laws.{Sound, SoundPlace, Reads}
use Rattle.books.proofs.Entries.{absent_blank, found, all_at}
use Rattle.books.proofs.Sounds.{zeros_none}

pub read_is : (k : Kept) (d q : ℕ) → d ≤ last_day → q < 64 → reading k d q ≡ Ok (account (entry k d) q)
unfolding reading
read_is k d q l m = grind arith

module _ (k : Kept) (d q : ℕ) (s : Sound k) where
  unknown : reading k d q ≡ Err OutOfRange → (last_day < d) ⊎ (64 ≤ q)
  unfolding reading
  unknown h = grind arith

  outside : (last_day < d) ⊎ (64 ≤ q) → reading k d q ≡ Err OutOfRange
  unfolding reading
  outside h = grind arith

  pub reads : Reads k d q
  reads = record {
    unknown = unknown;
    outside = outside;
    absent = λ l m h. read_is k d q l m ∙ ap (λ x. Ok (account x q)) (absent_blank d k.held h) ∙ ap (λ a. Ok (record { reserved = false; billed = false; amounts = a })) (zeros_none q);
    held = λ i l m. read_is k (at k.held i).day q (all_at SoundPlace k.held i s.each l).day m ∙ ap (λ x. Ok (account x q)) (found k.held i s.rising l);
  }
