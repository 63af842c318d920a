-- One step of the walk to a mark, where the parts of a cut stand, and how many spaces a line has at most.
use Rattle.std.proofs.Common.{◌≡◌, ℕ, suc, ◌+◌, ◌≤◌, Bool, true, false, not, cond, eqb, ltb, List, [], ◌∷◌, ◌++◌, length, take, drop, Some, None, Option, sym, refl, ap, ◌∙◌, append_assoc, append-nil, add-one, arith}
use Rattle.std.specs.List.{position, position_or_len}
use Rattle.std.specs.Option.{option_map}
use Rattle.std.proofs.lemmas.List.{take_all, drop_all, take_at, drop_at, length_push}
use Rattle.std.proofs.lemmas.Bool.{eqb-true, lt-ltb}
use Prim.Native.Nat.compare
use Rattle.std.proofs.lemmas.List.Sums.{count_by-le-length}
use Rattle.figures.specs.Cuts.{cut, cut_on, before, beyond, first_field, past_field, spaces, Placed}

-- a cut is made at the first place of the mark
abbrev parts_at : List ℕ → List ℕ → ℕ → List ℕ × List ℕ
parts_at front bs i = (front ++ take i bs, drop (suc i) bs)

part_next : (t : Bool) (front : List ℕ) (b k : ℕ) (bs : List ℕ) → option_map (parts_at (front ++ b ∷ []) bs) (cond t (Some k) None) ≡ option_map (parts_at front (b ∷ bs)) (cond t (Some (suc k)) None)
part_next true front b k bs = ap (λ (l : List ℕ). Some (l, drop (suc k) bs)) (append_assoc front (b ∷ []) (take k bs))
part_next false front b k bs = refl

cut_place : (m : ℕ) (front bs : List ℕ) → cut_on m front bs ≡ option_map (parts_at front bs) (position (λ b. eqb b m) bs)
cut_place m front [] = refl
cut_place m front (b ∷ bs) =
    let n = position_or_len (λ x. eqb x m) bs in
    let next : 1 + n ≡ suc n = omega arith in
    elim (eqb b m) as (λ t. cond t (Some (front, bs)) (cut_on m (front ++ b ∷ []) bs) ≡ option_map (parts_at front (b ∷ bs)) (cond (ltb (cond (not t) (1 + n) 0) (length (b ∷ bs))) (Some (cond (not t) (1 + n) 0)) None)) [
      | true ↦ rw (lt-ltb 0 (suc (length bs)) (omega arith)) (ap (λ (l : List ℕ). Some (l, bs)) (sym (append-nil front)))
      | false ↦ cut_place m (front ++ b ∷ []) bs ∙ rw (next, compare.suc-suc) (part_next (ltb n (length bs)) front b n bs)
    ]

pub cut_none : (m : ℕ) (bs : List ℕ) → position (λ b. eqb b m) bs ≡ None → cut m bs ≡ None
cut_none m bs e = cut_place m [] bs ∙ ap (option_map (parts_at [] bs)) e

pub cut_some : (m : ℕ) (bs : List ℕ) (i : ℕ) → position (λ b. eqb b m) bs ≡ Some i → cut m bs ≡ Some (take i bs, drop (i + 1) bs)
cut_some m bs i e = rw add-one (cut_place m [] bs ∙ ap (option_map (parts_at [] bs)) e)

-- what was passed in front of a cut and what is cut off make up the whole
part_here : (m : ℕ) (front bs : List ℕ) (b : ℕ) (p : List ℕ × List ℕ) (t : Bool) → eqb b m ≡ t → (Some p ≡ cut_on m (front ++ b ∷ []) bs → (front ++ b ∷ []) ++ bs ≡ p.0 ++ m ∷ p.1) → Some p ≡ cond t (Some (front, bs)) (cut_on m (front ++ b ∷ []) bs) → front ++ b ∷ bs ≡ p.0 ++ m ∷ p.1
part_here m front bs b p true q k h =
    let x : p ≡ (front, bs) = cc in
    ap (λ n. front ++ n ∷ bs) (eqb-true b m q) ∙ sym (ap (λ (y : List ℕ × List ℕ). y.0 ++ m ∷ y.1) x)
part_here m front bs b p false q k h = sym (append_assoc front (b ∷ []) bs) ∙ k h

parted : (m : ℕ) (front bs : List ℕ) (p : List ℕ × List ℕ) → Some p ≡ cut_on m front bs → front ++ bs ≡ p.0 ++ m ∷ p.1
parted m front [] p e = cc
parted m front (b ∷ bs) p e = part_here m front bs b p (eqb b m) refl (parted m (front ++ b ∷ []) bs p) e

pub cut_parted : (m : ℕ) (bs : List ℕ) (p : List ℕ × List ℕ) → Some p ≡ cut m bs → bs ≡ p.0 ++ m ∷ p.1
cut_parted m bs p e = parted m [] bs p e

past_dropped : (m : ℕ) (xs ys : List ℕ) → drop (length xs + 1) (xs ++ m ∷ ys) ≡ ys
past_dropped m xs ys =
    ap (drop (length xs + 1)) (sym (append_assoc xs (m ∷ []) ys)) ∙ drop_at (xs ++ m ∷ []) ys (length xs + 1) (length_push xs m)

pub placed_cut : (m : ℕ) (bs : List ℕ) (p : List ℕ × List ℕ) → Some p ≡ cut m bs → Placed bs p.0 p.1
placed_cut m bs p e =
    let w = cut_parted m bs p e in
    record { front = sym (ap (take (length p.0)) w ∙ take_at p.0 (m ∷ p.1) (length p.0) refl); past = sym (ap (drop (length p.0 + 1)) w ∙ past_dropped m p.0 p.1) }

placed_by : (bs : List ℕ) (o : Option (List ℕ × List ℕ)) → o ≡ cut 32 bs → Placed bs (before bs o) (beyond o)
placed_by bs None e = record { front = sym (take_all (length bs) bs (omega arith)); past = sym (drop_all (length bs + 1) bs (omega arith)) }
placed_by bs (Some p) e = placed_cut 32 bs p e

pub placed : (bs : List ℕ) → Placed bs (first_field bs) (past_field bs)
placed bs = placed_by bs (cut 32 bs) refl

-- a line has no more spaces than bytes
pub few_spaces : (bs : List ℕ) → spaces bs ≤ length bs
few_spaces bs = count_by-le-length (λ b. eqb b 32) bs
