-- Pieces of a list, read and written over.
use Rattle.std.proofs.Common.{◌≡◌, ℕ, zero, suc, ◌+◌, ◌*◌, ◌<◌, ◌≤◌, List, [], ◌∷◌, ◌++◌, length, get_or, set, take, drop, arith, refl, sym, ap, ◌∙◌, append_assoc, length-append, length-take-le, length-drop}
use Rattle.std.proofs.lemmas.List.{drop-drop, take_at, drop_at}
use Rattle.std.proofs.lemmas.Slice.{drop-put_mid}
use borrow.Rule.Slice.PartMut.{put_mid}
use Rattle.std.proofs.Math.Seq.{take-add}
use Rattle.std.specs.Simd.{first_chunks}
use Rattle.imagebook.specs.Images.{over}

module _ {X : Type 0} (k : ℕ) where
  -- a piece is the same among more or fewer
  pub piece_same : (m n i : ℕ) (xs : List X) → i < m → i < n → get_or (first_chunks k m xs) i [] ≡ get_or (first_chunks k n xs) i []
  piece_same zero n i xs l h = absurd (omega (arith, l))
  piece_same (suc m) zero i xs l h = absurd (omega (arith, h))
  piece_same (suc m) (suc n) zero xs l h = refl
  piece_same (suc m) (suc n) (suc i) xs l h = piece_same m n i (drop k xs) (omega (arith, l)) (omega (arith, h))

  pub length-over : (a : ℕ) (xs ys : List X) → a + k ≤ length xs → length ys ≡ k → length (over a k xs ys) ≡ length xs
  length-over a xs ys l e =
      omega (arith, l, e, length-append (take a xs) (ys ++ drop (a + k) xs), length-append ys (drop (a + k) xs), length-take-le a xs (omega (arith, l)), length-drop (a + k) xs)

  over_first : (xs ys : List X) → over 0 k xs ys ≡ ys ++ drop k xs
  over_first xs ys = ap (λ m. ys ++ drop m xs) {x = 0 + k} {y = k} (omega arith)

  -- written over behind the first piece
  over_later : (a : ℕ) (xs ys : List X) → over (k + a) k xs ys ≡ take k xs ++ over a k (drop k xs) ys
  over_later a xs ys =
      ap (λ zs. zs ++ (ys ++ drop (k + a + k) xs)) (take-add k a xs)
      ∙ append_assoc (take k xs) (take a (drop k xs)) (ys ++ drop (k + a + k) xs)
      ∙ ap (λ zs. take k xs ++ (take a (drop k xs) ++ (ys ++ zs))) (ap (λ m. drop m xs) {x = k + a + k} {y = k + (a + k)} (omega arith) ∙ sym (drop-drop (a + k) k xs))

  same_cons : (x y : List X) (xs ys : List (List X)) → x ≡ y → xs ≡ ys → x ∷ xs ≡ y ∷ ys
  same_cons x y xs ys e f = cc

  -- a piece written over is one element of the list of pieces
  pub pieces_over : (n i : ℕ) (xs ys : List X) → i < n → k * n ≤ length xs → length ys ≡ k → first_chunks k n (over (k * i) k xs ys) ≡ set (first_chunks k n xs) i ys
  pieces_over zero i xs ys l w e = absurd (omega (arith, l))
  pieces_over (suc n) zero xs ys l w e =
      let o : over (k * 0) k xs ys ≡ ys ++ drop k xs = ap (λ m. over m k xs ys) {x = k * 0} {y = 0} (omega arith) ∙ over_first xs ys in
      same_cons _ _ _ _ (ap (take k) o ∙ take_at ys (drop k xs) k e) (ap (λ zs. first_chunks k n (drop k zs)) o ∙ ap (first_chunks k n) (drop_at ys (drop k xs) k e))
  pieces_over (suc n) (suc i) xs ys l w e =
      let o : over (k * suc i) k xs ys ≡ take k xs ++ over (k * i) k (drop k xs) ys = ap (λ m. over m k xs ys) {x = k * suc i} {y = k + k * i} (omega arith) ∙ over_later (k * i) xs ys in
      let t : length (take k xs) ≡ k = length-take-le k xs (omega (arith, w)) in
      let r = pieces_over n i (drop k xs) ys (omega (arith, l)) (omega (arith, w, length-drop k xs)) e in
      same_cons _ _ _ _
      (ap (take k) o ∙ take_at (take k xs) (over (k * i) k (drop k xs) ys) k t)
      (ap (λ zs. first_chunks k n (drop k zs)) o ∙ ap (first_chunks k n) (drop_at (take k xs) (over (k * i) k (drop k xs) ys) k t) ∙ r)

  pub over_put : (a : ℕ) (xs ys : List X) → over a k xs ys ≡ put_mid a k xs ys
  over_put a xs ys = ap (λ zs. take a xs ++ (ys ++ zs)) (sym (drop-drop k a xs))

  -- what lies behind is not written over
  pub drop-over : (a m : ℕ) (xs ys : List X) → a + k ≤ m → a + k ≤ length xs → length ys ≡ k → drop m (over a k xs ys) ≡ drop m xs
  drop-over a m xs ys l w e = ap (drop m) (over_put a xs ys) ∙ drop-put_mid a k xs ys m l (omega (arith, w)) e
