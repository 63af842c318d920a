-- The places of an image, read and written.
use Rattle.std.proofs.Common.{◌≡◌, ℕ, zero, suc, ◌+◌, ◌*◌, ◌<◌, ◌≤◌, true, List, [], ◌∷◌, map, length, get_or, set, take, drop, ◌&&◌, Bool, false, arith, refl, sym, ap, ◌∙◌}
use Rattle.std.proofs.lemmas.List.{get_or-map, map-set}
use Rattle.std.proofs.lemmas.List.{with_items_is}
use Rattle.std.specs.Vec.{with_items}
use Rattle.std.specs.declared.vec.Vec.{Vec}
use Rattle.std.specs.declared.alloc.Global.{Global}
use Rattle.std.specs.Simd.{first_chunks}
use Rattle.books.specs.declared.place.Place.{Place}
use Rattle.books.specs.Places.{free, at}
use Rattle.image.specs.Places.{place_bytes, place_of, is_formed}
use Rattle.image.specs.Laws.{Written}
use Rattle.image.proofs.Amounts.{Small, small_take, small_drop, small_append}
use Rattle.image.proofs.Reading.{length-first_chunks}
use Rattle.imagebook.specs.Forms.{all_formed}
use Rattle.imagebook.specs.ImagesKept.{and_first, and_second}
use Rattle.imagebook.specs.Images.{over, places_in}
use Rattle.imagebook.proofs.Chunks.{piece_same, pieces_over, length-over, drop-over}

pub place_at : (n m i : ℕ) (bs : List ℕ) → i < n → i < m → place_of (get_or (first_chunks 1544 m bs) i []) ≡ at (places_in n bs) i
unfolding places_in
place_at n m i bs l h =
    let e = length-first_chunks 1544 n bs in
    ap place_of (piece_same 1544 m n i bs h l) ∙ sym (get_or-map place_of (first_chunks 1544 n bs) i [] free (omega (arith, l, e)))

and_both : (a b : Bool) → a ≡ true → b ≡ true → (a && b) ≡ true
and_both true b h k = k
and_both false b h k = absurd (grind arith)

formed_set : (cs : List (List ℕ)) (i : ℕ) (ys : List ℕ) → all_formed cs ≡ true → is_formed ys ≡ true → all_formed (set cs i ys) ≡ true
unfolding all_formed
formed_set [] i ys h f = refl
formed_set (c ∷ cs) zero ys h f = and_both _ _ f (and_second _ _ h)
formed_set (c ∷ cs) (suc i) ys h f = and_both _ _ (and_first _ _ h) (formed_set cs i ys (and_second _ _ h) f)

-- a place written over place i of bytes
module _ (n i : ℕ) (bs : List ℕ) (x : Place) (l : i < n) (w : 1544 * n ≤ length bs) (t : Written x) where
  abbrev wrote : List ℕ
  wrote = over (1544 * i) 1544 bs (place_bytes x)

  long : length (place_bytes x) ≡ 1544
  long = t.bytes.long

  pub length-wrote : length wrote ≡ length bs
  length-wrote = length-over 1544 (1544 * i) bs (place_bytes x) (omega (arith, l, w)) long

  pub places_wrote : places_in n wrote ≡ set (places_in n bs) i x
  unfolding places_in
  places_wrote =
      ap (map place_of) (pieces_over 1544 n i bs (place_bytes x) l w long)
      ∙ map-set place_of (first_chunks 1544 n bs) i (place_bytes x)
      ∙ ap (set (map place_of (first_chunks 1544 n bs)) i) t.back

  pub formed_wrote : all_formed (first_chunks 1544 n bs) ≡ true → all_formed (first_chunks 1544 n wrote) ≡ true
  formed_wrote f = ap all_formed (pieces_over 1544 n i bs (place_bytes x) l w long) ∙ formed_set (first_chunks 1544 n bs) i (place_bytes x) f t.bytes.formed

  pub small_wrote : Small bs → Small wrote
  small_wrote s = small_append (take (1544 * i) bs) _ (small_take (1544 * i) bs s) (small_append (place_bytes x) _ t.bytes.small (small_drop (1544 * i + 1544) bs s))

  pub beside_wrote : drop (1544 * n) wrote ≡ drop (1544 * n) bs
  beside_wrote = drop-over 1544 (1544 * i) (1544 * n) bs (place_bytes x) (omega (arith, l)) (omega (arith, l, w)) long

-- the same where the bytes are a vector's, which the write has filled anew
module _ (v : Vec ℕ Global) (n i : ℕ) (ws : List ℕ) (x : Place) (l : i < n) (w : 1544 * n ≤ length v.items) (t : Written x) (e : ws ≡ over (i * 1544) 1544 v.items (place_bytes x)) where
  after : (with_items v ws).items ≡ wrote n i v.items x l w t
  after =
      let f : ws ≡ wrote n i v.items x l w t = e ∙ ap (λ a. over a 1544 v.items (place_bytes x)) {x = i * 1544} {y = 1544 * i} (omega arith) in
      with_items_is v ws (ap length f ∙ length-wrote n i v.items x l w t ∙ sym v.ok.0) ∙ f

  pub slots_after : places_in n (with_items v ws).items ≡ set (places_in n v.items) i x
  slots_after = ap (places_in n) after ∙ places_wrote n i v.items x l w t

  pub beside_after : drop (1544 * n) (with_items v ws).items ≡ drop (1544 * n) v.items
  beside_after = ap (drop (1544 * n)) after ∙ beside_wrote n i v.items x l w t

  pub within_after : 1544 * n ≤ length (with_items v ws).items
  within_after = rw (after, length-wrote n i v.items x l w t) w

  pub formed_after : all_formed (first_chunks 1544 n v.items) ≡ true → all_formed (first_chunks 1544 n (with_items v ws).items) ≡ true
  formed_after f = ap (λ bs. all_formed (first_chunks 1544 n bs)) after ∙ formed_wrote n i v.items x l w t f

  pub small_after : Small v.items → Small (with_items v ws).items
  small_after s = rw after (small_wrote n i v.items x l w t s)
