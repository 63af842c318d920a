-- A list decides a question as the law says, and in no other way.
use Rattle.std.proofs.Common.{◌≡◌, ◌⊎◌, List, [], ◌∷◌, ◌++◌, ℤ, sym, refl, ap, ◌∙◌, inl, inr, arith}
use Rattle.std.specs.List.{AllByRecursion}
use Rattle.terms.specs.declared.answer.Answer.{Answer}
use Rattle.terms.specs.declared.answer.Answer.TheVariants.{NoCut, Null, Figure}
use Rattle.terms.specs.Answers.{later}
use Rattle.terms.specs.Decisions.{decide, Silent, Among, Decided, Decision}

silent_none : (s : Answer) → s ≡ NoCut → Silent s
silent_none s p z e = grind arith

silent_null : (s : Answer) → s ≡ Null → Silent s
silent_null s p z e = grind arith

apart : {X : Type 0} (z : ℤ) (a : Answer) → a ≡ Figure z → Silent a → X
apart z a e s = absurd (s z e)

null_cut : {X : Type 0} → Null ≡ NoCut → X
null_cut e = grind arith

module _ {X : Type 0} (says : X → Answer) where
  -- the law with an answer so far
  abbrev On : Answer → List X → Answer → Type 0
  On a xs (Figure z) = Decided says xs (Figure z) ⊎ ((a ≡ Figure z) × AllByRecursion (λ x. Silent (says x)) xs)
  On a xs Null = AllByRecursion (λ x. Silent (says x)) xs × ((a ≡ Null) ⊎ ((a ≡ NoCut) × (m : Among xs) × (says m.one ≡ Null)))
  On a xs NoCut = (a ≡ NoCut) × AllByRecursion (λ x. says x ≡ NoCut) xs

  abbrev more : (x : X) (xs : List X) → Among xs → Among (x ∷ xs)
  more x xs m = record { before = x ∷ m.before; one = m.one; after = m.after; whole = ap (λ l. x ∷ l) m.whole }

  abbrev here : (x : X) (xs : List X) → Among (x ∷ xs)
  here x xs = record { before = []; one = x; after = xs; whole = refl }

  found_more : (x : X) (xs : List X) (z : ℤ) → Decided says xs (Figure z) → Decided says (x ∷ xs) (Figure z)
  found_more x xs z d = (more x xs d.0, d.1, d.2)

  -- an element that says nothing of the question
  step_none : (x : X) (xs : List X) (a r : Answer) → says x ≡ NoCut → On a xs r → On a (x ∷ xs) r
  step_none x xs a (Figure z) p h =
      elim h [ inl d ↦ inl (found_more x xs z d) | inr q ↦ inr (q.0, (silent_none (says x) p, q.1)) ]
  step_none x xs a Null p h =
      ((silent_none (says x) p, h.0), elim h.1 [ inl e ↦ inl e | inr q ↦ inr (q.0, more x xs q.1, q.2) ])
  step_none x xs a NoCut p h = (h.0, (p, h.1))

  -- an element that gives a number for another interval
  step_null : (x : X) (xs : List X) (a r : Answer) → says x ≡ Null → On (later a Null) xs r → On a (x ∷ xs) r
  step_null x xs NoCut (Figure z) p h = elim h [ inl d ↦ inl (found_more x xs z d) | inr q ↦ apart z Null q.0 (silent_null Null refl) ]
  step_null x xs NoCut Null p h =
      ((silent_null (says x) p, h.0), inr (refl, here x xs, p))
  step_null x xs NoCut NoCut p h = null_cut h.0
  step_null x xs Null (Figure z) p h = elim h [ inl d ↦ inl (found_more x xs z d) | inr q ↦ apart z Null q.0 (silent_null Null refl) ]
  step_null x xs Null Null p h = ((silent_null (says x) p, h.0), inl refl)
  step_null x xs Null NoCut p h = null_cut h.0
  step_null x xs (Figure w) (Figure z) p h =
      elim h [ inl d ↦ inl (found_more x xs z d) | inr q ↦ inr (q.0, (silent_null (says x) p, q.1)) ]
  step_null x xs (Figure w) Null p h =
      elim h.1 [ inl e ↦ apart w Null (sym e) (silent_null Null refl) | inr q ↦ apart w NoCut (sym q.0) (silent_none NoCut refl) ]
  step_null x xs (Figure w) NoCut p h = apart w NoCut (sym h.0) (silent_none NoCut refl)

  -- an element that gives the number
  step_figure : (x : X) (xs : List X) (a r : Answer) (w : ℤ) → says x ≡ Figure w → On (Figure w) xs r → On a (x ∷ xs) r
  step_figure x xs a (Figure z) w p h = elim h [ inl d ↦ inl (found_more x xs z d) | inr q ↦ inl (here x xs, p ∙ q.0, q.1) ]
  step_figure x xs a Null w p h =
      elim h.1 [ inl e ↦ apart w Null (sym e) (silent_null Null refl) | inr q ↦ apart w NoCut (sym q.0) (silent_none NoCut refl) ]
  step_figure x xs a NoCut w p h = apart w NoCut (sym h.0) (silent_none NoCut refl)

  step : (x : X) (xs : List X) (a r s : Answer) → says x ≡ s → On (later a s) xs r → On a (x ∷ xs) r
  step x xs a r NoCut p h = step_none x xs a r p h
  step x xs a r Null p h = step_null x xs a r p h
  step x xs a r (Figure w) p h = step_figure x xs a r w p h

  all : (xs : List X) (a : Answer) → On a xs (decide says a xs)
  all [] NoCut = (refl, tt)
  all [] Null = (tt, inl refl)
  all [] (Figure z) = inr (refl, tt)
  all (x ∷ xs) a = step x xs a (decide says (later a (says x)) xs) (says x) refl (all xs (later a (says x)))

  fresh : (xs : List X) (r : Answer) → On NoCut xs r → Decided says xs r
  fresh xs (Figure z) h = elim h [ inl d ↦ d | inr q ↦ apart z NoCut q.0 (silent_none NoCut refl) ]
  fresh xs Null h = elim h.1 [ inl e ↦ null_cut (sym e) | inr q ↦ (q.1, q.2, h.0) ]
  fresh xs NoCut h = h.1

  pub decides : (xs : List X) → Decided says xs (decide says NoCut xs)
  decides xs = fresh xs _ (all xs NoCut)

  -- the other way round: what the law says of an answer makes it the answer
  keeps : (z : ℤ) (s : Answer) → Silent s → later (Figure z) s ≡ Figure z
  keeps z NoCut n = refl
  keeps z Null n = refl
  keeps z (Figure w) n = absurd (n w refl)

  silent : (z : ℤ) (xs : List X) → AllByRecursion (λ x. Silent (says x)) xs → decide says (Figure z) xs ≡ Figure z
  silent z [] k = refl
  silent z (x ∷ xs) k = ap (λ a. decide says a xs) (keeps z (says x) k.0) ∙ silent z xs k.1

  last : (a : Answer) (before after : List X) (x : X) (z : ℤ) → says x ≡ Figure z → AllByRecursion (λ y. Silent (says y)) after → decide says a (before ++ x ∷ after) ≡ Figure z
  last a [] after x z e k = ap (λ s. decide says (later a s) after) e ∙ silent z after k
  last a (y ∷ before) after x z e k = last (later a (says y)) before after x z e k

  null_keeps : (s : Answer) → Silent s → later Null s ≡ Null
  null_keeps NoCut n = refl
  null_keeps Null n = refl
  null_keeps (Figure w) n = absurd (n w refl)

  null_stays : (xs : List X) → AllByRecursion (λ x. Silent (says x)) xs → decide says Null xs ≡ Null
  null_stays [] k = refl
  null_stays (x ∷ xs) k = ap (λ a. decide says a xs) (null_keeps (says x) k.0) ∙ null_stays xs k.1

  none_later : (s : Answer) → Silent s → (later NoCut s ≡ NoCut) ⊎ (later NoCut s ≡ Null)
  none_later NoCut n = inl refl
  none_later Null n = inr refl
  none_later (Figure w) n = absurd (n w refl)

  null_last : (before after : List X) (x : X) → says x ≡ Null → AllByRecursion (λ y. Silent (says y)) (before ++ x ∷ after) → decide says NoCut (before ++ x ∷ after) ≡ Null
  null_last [] after x e k = ap (λ s. decide says (later NoCut s) after) e ∙ null_stays after k.1
  null_last (y ∷ before) after x e k =
      elim (none_later (says y) k.0) [
        | inl q ↦ ap (λ a. decide says a (before ++ x ∷ after)) q ∙ null_last before after x e k.1
        | inr q ↦ ap (λ a. decide says a (before ++ x ∷ after)) q ∙ null_stays (before ++ x ∷ after) k.1
      ]

  none_stays : (xs : List X) (a : Answer) → AllByRecursion (λ x. says x ≡ NoCut) xs → decide says a xs ≡ a
  none_stays [] a k = refl
  none_stays (x ∷ xs) a k = ap (λ s. decide says (later a s) xs) k.0 ∙ none_stays xs a k.1

  pub once : (xs : List X) (a : Answer) → Decided says xs a → a ≡ decide says NoCut xs
  once xs (Figure z) d = sym (ap (decide says NoCut) d.0.whole ∙ last NoCut d.0.before d.0.after d.0.one z d.1 d.2)
  once xs Null d =
      let k = d.2 in
      sym (ap (decide says NoCut) d.0.whole ∙ null_last d.0.before d.0.after d.0.one d.1 (rw d.0.whole at k))
  once xs NoCut d = sym (none_stays xs NoCut d)

  pub decision : (xs : List X) (r : Answer) → r ≡ decide says NoCut xs → Decision says xs r
  decision xs r e = record { decided = rw e (decides xs); only = λ a d. once xs a d ∙ sym e }
