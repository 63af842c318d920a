-- How a list of lines or records decides a question. Each of them says of a question: nothing (NoCut), that it gives a number for
-- another interval (Null), or the number that it gives (Figure). Assumes nothing.
use Rattle.std.specs.Prelude.{◌≡◌, List, fold, ◌∷◌, ◌++◌, ℤ, ◌≢◌}
use Rattle.std.specs.List.{AllByRecursion}
use Rattle.terms.specs.declared.answer.Answer.{Answer}
use Rattle.terms.specs.declared.answer.Answer.TheVariants.{NoCut, Null, Figure}
use Rattle.terms.specs.Answers.{later}

-- the answer after the answer so far and what the rest of the list says
abbrev pub decide : {X : Type 0} → (X → Answer) → Answer → List X → Answer
decide says a xs = fold (λ r x. later r (says x)) a xs

-- gives no number for the interval asked
abbrev pub Silent : Answer → Type 0
Silent a = (z : ℤ) → a ≢ Figure z

-- one element of the list, with those before and after it
pub record Among {X : Type 0} (xs : List X) : Type 0 where
  pub before : List X
  pub one : X
  pub after : List X
  pub whole : xs ≡ before ++ one ∷ after

-- The law of an answer, in terms of the whole list: it is the number of the last element that gives one for the interval; null
-- where only other intervals have one; no cut where none has.
abbrev pub Decided : {X : Type 0} → (X → Answer) → List X → Answer → Type 0
Decided says xs (Figure z) = (m : Among xs) × (says m.one ≡ Figure z) × AllByRecursion (λ x. Silent (says x)) m.after
Decided says xs Null = (m : Among xs) × (says m.one ≡ Null) × AllByRecursion (λ x. Silent (says x)) xs
Decided says xs NoCut = AllByRecursion (λ x. says x ≡ NoCut) xs

-- an answer is what the law makes of the list, and nothing else is
pub record Decision {X : Type 0} (says : X → Answer) (xs : List X) (r : Answer) : Type 0 where
  pub decided : Decided says xs r
  pub only : (a : Answer) → Decided says xs a → a ≡ r
