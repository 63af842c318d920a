-- What lifting comes to.
use Rattle.std.proofs.Common.{◌≡◌, ℕ, ◌<◌, ◌≤◌, ◌+◌, Bool, true, false, ◌||◌, length, Ok, Err, arith, sym, ◌∙◌, ap, subst}
use Rattle.books.specs.declared.refusal.BookRefusal.{BookRefusal}
use Rattle.books.specs.declared.refusal.BookRefusal.TheVariants.{OutOfRange, NotReserved}
use Rattle.terms.specs.Limits.{last_day}
use Rattle.books.specs.Places.{marked, blank}
use Rattle.books.specs.Kept.{Kept, entry, holds, put, cut}
use Rattle.books.specs.Calls.{lifting}
use Rattle.books.specs.Laws.{Sound, Changed, Lifts}
use Rattle.books.proofs.Entries.{put_changes, cut_changes, cut_held, entry_day, held_taken}

module _ (k : Kept) (d : ℕ) (b : Bool) (s : Sound k) where
  refused : (e : BookRefusal) → (lifting k d b).answer ≡ Err e → (lifting k d b).after ≡ k
  unfolding lifting
  refused e h = grind arith

  needed : (lifting k d b).answer ≡ Err NotReserved → (entry k d).reserved ≡ false
  unfolding lifting
  needed h = grind arith

  reserved : (lifting k d b).answer ≡ Ok tt → (entry k d).reserved ≡ true
  unfolding lifting
  reserved h = grind arith

  put_after : (lifting k d b).answer ≡ Ok tt → (b || (entry k d).billed) ≡ true → (lifting k d b).after ≡ put k (marked (entry k d) false true)
  unfolding lifting
  put_after h t = grind arith

  cut_after : (lifting k d b).answer ≡ Ok tt → (b || (entry k d).billed) ≡ false → (lifting k d b).after ≡ cut k d
  unfolding lifting
  cut_after h t = grind arith

  is_held : (lifting k d b).answer ≡ Ok tt → holds k d ≡ true
  is_held h = let r = reserved h in let t = held_taken d k.held s.each in grind arith

  given : d ≤ last_day → (entry k d).reserved ≡ true → (lifting k d b).answer ≡ Ok tt
  unfolding lifting
  given l r = grind arith

  unreserved : d ≤ last_day → (entry k d).reserved ≡ false → (lifting k d b).answer ≡ Err NotReserved
  unfolding lifting
  unreserved l r = grind arith

  unknown : (lifting k d b).answer ≡ Err OutOfRange → last_day < d
  unfolding lifting
  unknown h = grind arith

  outside : last_day < d → (lifting k d b).answer ≡ Err OutOfRange
  unfolding lifting
  outside l = grind arith

  pub lifts : Lifts k d b
  lifts = record {
    refused = refused;
    billed = λ h t. subst (Changed k d (marked (entry k d) false true)) (sym (put_after h t)) (put_changes k d _ (entry_day d k.held));
    freed = λ h t. let e = cut_after h t in (subst (Changed k d (blank d)) (sym e) (cut_changes k d s.rising), ap (λ l. length l.held + 1) e ∙ cut_held d k.held (is_held h));
    needed = needed;
    given = given;
    unreserved = unreserved;
    unknown = unknown;
    outside = outside;
  }
