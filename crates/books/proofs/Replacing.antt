-- What replacing comes to.
use Rattle.std.proofs.Common.{false, ◌≡◌, ◌⊎◌, ℕ, true, ◌<◌, ◌≤◌, Ok, Err, arith, sym, ◌∙◌, ap, subst, get_or, set, get_or-set_same, get_or-set_other, inl, inr}
use Rattle.std.proofs.lemmas.Bool.{cases_eq}
use Rattle.terms.specs.Limits.{last_day}
use Rattle.amounts.specs.declared.row.Amounts.{Amounts}
use Rattle.amounts.specs.Triples.{none}
use Rattle.books.specs.declared.refusal.BookRefusal.{BookRefusal}
use Rattle.books.specs.declared.refusal.BookRefusal.TheVariants.{OutOfRange, NotReserved}
use Rattle.books.specs.Places.{replaced, in_range}
use Rattle.books.specs.Kept.{Kept, entry, holds, put}
use Rattle.books.specs.Calls.{account, reading, replacing}
use Rattle.books.specs.Laws.{Sound, Changed, Replaces}
use Rattle.books.proofs.Entries.{put_changes, put_holds, entry_day, held_taken}
use Rattle.books.proofs.Sounds.{entry_amounted}
use Rattle.books.proofs.Reading.{read_is}

-- reading asks only for what is kept of the day
pub read_same : (k l : Kept) (d q : ℕ) → account (entry l d) q ≡ account (entry k d) q → reading l d q ≡ reading k d q
unfolding reading
read_same k l d q h = grind arith

module _ (k : Kept) (d q : ℕ) (a : Amounts) (s : Sound k) where
  refused : (e : BookRefusal) → (replacing k d q a).answer ≡ Err e → (replacing k d q a).after ≡ k
  unfolding replacing
  refused e h = grind arith

  -- what an accepted one was called with, and what it leaves
  record Accepted : Type 0 where
    pub day : d ≤ last_day
    pub entity : q < 64
    pub ranged : in_range a ≡ true
    pub reserved : (entry k d).reserved ≡ true
    pub after : (replacing k d q a).after ≡ put k (replaced (entry k d) q a)

  accepted : (replacing k d q a).answer ≡ Ok tt → Accepted
  unfolding replacing
  accepted h = record { day = grind arith; entity = grind arith; ranged = grind arith; reserved = grind arith; after = grind arith }

  -- either it is accepted, or nothing is changed
  turns : ((replacing k d q a).answer ≡ Ok tt) ⊎ ((replacing k d q a).after ≡ k)
  unfolding replacing
  turns = grind arith

  changes : (replacing k d q a).answer ≡ Ok tt → Changed k d (replaced (entry k d) q a) (replacing k d q a).after
  changes h = subst (Changed k d (replaced (entry k d) q a)) (sym (accepted h).after) (put_changes k d _ (entry_day d k.held))

  there : (replacing k d q a).answer ≡ Ok tt → reading (replacing k d q a).after d q ≡ Ok (record { reserved = true; billed = (entry k d).billed; amounts = a })
  there h =
      let c = accepted h in
      let m = entry_amounted d k.held s.each in
      let g : get_or (set (entry k d).amounts q a) q none ≡ a = get_or-set_same (entry k d).amounts q a none (rw m.long c.entity) in
      read_is (replacing k d q a).after d q c.day c.entity ∙ ap (λ x. Ok (account x q)) (changes h).there ∙ grind arith

  -- another entity of the same day
  beside : (r : ℕ) → (r ≡ q → ⊥) → (replacing k d q a).answer ≡ Ok tt → account (entry (replacing k d q a).after d) r ≡ account (entry k d) r
  beside r n h =
      let g : get_or (set (entry k d).amounts q a) r none ≡ get_or (entry k d).amounts r none = get_or-set_other (entry k d).amounts q r a none n in
      ap (λ x. account x r) (changes h).there ∙ grind arith

  elsewhere : (e r : ℕ) → ((e ≡ d) × (r ≡ q) → ⊥) → reading (replacing k d q a).after e r ≡ reading k e r
  elsewhere e r n =
      elim turns [
        | inl h ↦ elim (cases_eq e d) [
          | inl p ↦ read_same k (replacing k d q a).after e r (subst (λ z. account (entry (replacing k d q a).after z) r ≡ account (entry k z) r) (sym p) (beside r (λ o. n (p, o)) h))
          | inr o ↦ read_same k (replacing k d q a).after e r (ap (λ x. account x r) ((changes h).elsewhere e o))
        ]
        | inr h ↦ ap (λ l. reading l e r) h
      ]

  same : (e : ℕ) → holds (replacing k d q a).after e ≡ holds k e
  same e =
      elim turns [
        | inl h ↦
            let c = accepted h in
            let t : holds k d ≡ true = let f = held_taken d k.held s.each in let g = c.reserved in grind arith in
            ap (λ l. holds l e) c.after ∙ put_holds (replaced (entry k d) q a) k.held e (rw (entry_day d k.held) t)
        | inr h ↦ ap (λ l. holds l e) h
      ]

  places : (replacing k d q a).after.places ≡ k.places
  unfolding replacing
  places = grind arith

  given : d ≤ last_day → q < 64 → in_range a ≡ true → (entry k d).reserved ≡ true → (replacing k d q a).answer ≡ Ok tt
  unfolding replacing
  given l m h r = grind arith

  needed : (replacing k d q a).answer ≡ Err NotReserved → (entry k d).reserved ≡ false
  unfolding replacing
  needed h = grind arith

  unreserved : d ≤ last_day → q < 64 → in_range a ≡ true → (entry k d).reserved ≡ false → (replacing k d q a).answer ≡ Err NotReserved
  unfolding replacing
  unreserved l m h r = grind arith

  unknown : (replacing k d q a).answer ≡ Err OutOfRange → (last_day < d) ⊎ ((64 ≤ q) ⊎ (in_range a ≡ false))
  unfolding replacing
  unknown h = grind arith

  outside : (last_day < d) ⊎ ((64 ≤ q) ⊎ (in_range a ≡ false)) → (replacing k d q a).answer ≡ Err OutOfRange
  unfolding replacing
  outside h = grind arith

  pub replaces : Replaces k d q a
  replaces = record {
    refused = refused;
    there = there;
    elsewhere = elsewhere;
    same = same;
    places = places;
    given = given;
    needed = needed;
    unreserved = unreserved;
    unknown = unknown;
    outside = outside;
  }
