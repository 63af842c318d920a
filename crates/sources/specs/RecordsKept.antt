-- A list of records keeps the laws of a source. Assumes nothing.
use Rattle.std.specs.Prelude.{◌≡◌, ℕ, ◌≤◌, Bool, true, false, cond, ◌&&◌, List, nat_le, unsigned_abs}
use Rattle.std.proofs.lemmas.Bool.{and_parts, leb-true, cond_both}
use Rattle.terms.specs.Limits.{last_determinant, last_unit, last_day, last_interval, most_stored, inside}
use Rattle.terms.specs.Answers.{Sized}
use Rattle.terms.specs.DecisionsKept.{decide_none, decide_sized}
use Rattle.terms.specs.Sources.{SourceLaws}
use Rattle.terms.specs.declared.answer.Answer.TheVariants.{NoCut, Null, Figure}
use Rattle.sources.specs.declared.records.Record.{Record}
use Rattle.sources.specs.Records.{sound_record, about, covers, record_says, recorded}

-- a record that says nothing at one interval says nothing at another
says_none : (d u y i j : ℕ) (r : Record) → record_says d u y i r ≡ NoCut → record_says d u y j r ≡ NoCut
says_none d u y i j r e = by (about d u y r && sound_record r) (covers r i) (covers r j) e
  where
    by : (t m n : Bool) → cond t (cond m (Figure r.number) Null) NoCut ≡ NoCut → cond t (cond n (Figure r.number) Null) NoCut ≡ NoCut
    by true true n k = cc
    by true false n k = cc
    by false m n k = k

sound_sized : (r : Record) → sound_record r ≡ true → unsigned_abs r.number ≤ most_stored
sound_sized r e =
    let p = and_parts (nat_le 1 r.determinant) _ e in
    let p = and_parts (nat_le r.determinant last_determinant) _ p.1 in
    let p = and_parts (nat_le r.unit last_unit) _ p.1 in
    let p = and_parts (nat_le r.day last_day) _ p.1 in
    let p = and_parts (nat_le r.interval last_interval) _ p.1 in
    leb-true (unsigned_abs r.number) most_stored p.1

says_sized : (d u y i : ℕ) (r : Record) → Sized (record_says d u y i r)
says_sized d u y i r =
    cond_both (about d u y r && sound_record r) _ NoCut Sized
    (λ t. cond_both (covers r i) (Figure r.number) Null Sized (λ _. sound_sized r (and_parts (about d u y r) _ t).1) (λ _. tt))
    (λ _. tt)

pub recorded_laws : {S : Type 0} (records : S → List Record) → SourceLaws (λ s d u y i. recorded (records s) d u y i)
recorded_laws records = record {
  outside = λ s d u y i e. rw e;
  whole = λ s d u y i j p q e. rw q (decide_none (record_says d u y i) (record_says d u y j) (says_none d u y i j) (records s) NoCut NoCut (λ h. h) (rw p at e));
  sized = λ s d u y i. cond_both (inside d u y i) _ NoCut Sized (λ _. decide_sized (record_says d u y i) (says_sized d u y i) (records s) NoCut tt) (λ _. tt);
}
