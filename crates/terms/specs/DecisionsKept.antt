-- What the laws of a source ask of a list that decides. Assumes nothing.
use Rattle.std.specs.Prelude.{◌≡◌, List, [], ◌∷◌, refl}
use Rattle.terms.specs.declared.answer.Answer.{Answer}
use Rattle.terms.specs.declared.answer.Answer.TheVariants.{NoCut, Null, Figure}
use Rattle.terms.specs.Answers.{later, Sized}
use Rattle.terms.specs.Decisions.{decide}

later_none : (a b s t : Answer) → (a ≡ NoCut → b ≡ NoCut) → (s ≡ NoCut → t ≡ NoCut) → later a s ≡ NoCut → later b t ≡ NoCut
later_none a b NoCut t h k e = let p = k refl in let q = h e in rw p q
later_none NoCut b Null t h k e = cc
later_none Null b Null t h k e = cc
later_none (Figure z) b Null t h k e = cc
later_none a b (Figure z) t h k e = cc

later_sized : (a s : Answer) → Sized a → Sized s → Sized (later a s)
later_sized a NoCut p q = p
later_sized NoCut Null p q = q
later_sized Null Null p q = q
later_sized (Figure z) Null p q = p
later_sized a (Figure z) p q = q

-- where each element that says nothing of one question says nothing of another, no cut for the one is no cut for the other
pub decide_none : {X : Type 0} (says tells : X → Answer) → ((x : X) → says x ≡ NoCut → tells x ≡ NoCut) → (xs : List X) (a b : Answer) → (a ≡ NoCut → b ≡ NoCut) → decide says a xs ≡ NoCut → decide tells b xs ≡ NoCut
decide_none says tells k [] a b h e = h e
decide_none says tells k (x ∷ xs) a b h e =
    decide_none says tells k xs (later a (says x)) (later b (tells x)) (later_none a b (says x) (tells x) h (k x)) e

pub decide_sized : {X : Type 0} (says : X → Answer) → ((x : X) → Sized (says x)) → (xs : List X) (a : Answer) → Sized a → Sized (decide says a xs)
decide_sized says k [] a h = h
decide_sized says k (x ∷ xs) a h = decide_sized says k xs (later a (says x)) (later_sized a (says x) h (k x))
