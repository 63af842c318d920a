-- What a list of records answers. Assumes nothing.
use Rattle.std.specs.Prelude.{ℕ, Bool, cond, ◌&&◌, ◌||◌, List, ◌==◌, nat_le, unsigned_abs}
use Rattle.terms.specs.Limits.{last_determinant, last_unit, last_day, last_interval, most_stored, inside}
use Rattle.terms.specs.Decisions.{decide}
use Rattle.terms.specs.declared.answer.Answer.{Answer}
use Rattle.terms.specs.declared.answer.Answer.TheVariants.{NoCut, Null, Figure}
use Rattle.sources.specs.declared.records.Record.{Record}

-- every part in its range
abbrev pub sound_record : Record → Bool
sound_record r =
    nat_le 1 r.determinant
    && (nat_le r.determinant last_determinant && (nat_le r.unit last_unit && (nat_le r.day last_day && (nat_le r.interval last_interval && nat_le (unsigned_abs r.number) most_stored))))

-- a record for interval 0 covers every interval
abbrev pub covers : Record → ℕ → Bool
covers r i = r.interval == 0 || r.interval == i

abbrev pub about : ℕ → ℕ → ℕ → Record → Bool
about d u y r = r.determinant == d && (r.unit == u && r.day == y)

-- what one record says of a question
abbrev pub record_says : ℕ → ℕ → ℕ → ℕ → Record → Answer
record_says d u y i r = cond (about d u y r && sound_record r) (cond (covers r i) (Figure r.number) Null) NoCut

-- what a list of records answers
abbrev pub recorded : List Record → ℕ → ℕ → ℕ → ℕ → Answer
recorded rs d u y i = cond (inside d u y i) (decide (record_says d u y i) NoCut rs) NoCut
