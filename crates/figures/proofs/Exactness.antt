-- What is read of a figure is the figure that is written, and nothing else is read.
use Rattle.std.proofs.Common.{◌≡◌, ℕ, suc, ◌+◌, ◌-◌, ◌*◌, ◌/◌, ◌^◌, ◌<◌, ◌≤◌, Bool, true, false, cond, eqb, leb, List, [], ◌∷◌, ◌++◌, length, get_or, drop, pos, neg_ℤ, Some, None, Ok, Err, Option, sym, refl, ap, ◌∙◌, subst, append_assoc, append-nil, mul_assoc, mul_comm, add-mul, pow-suc, sub-add_cancel, mul_right_comm, mul-div_cancel, arith, pow-add}
use native.Mathlib.Nat.{one-le-pow}
use Rattle.std.proofs.lemmas.Bool.{leb-true, cond_both, eqb-true, leb-false, true≢false}
use Rattle.terms.specs.Limits.{most_stored}
use Rattle.figures.specs.declared.numbers.Fault.TheVariants.{Beyond}
use Rattle.figures.specs.Marks.{mark_of, digit_of}
use Rattle.figures.specs.Cuts.{cut, cut_on}
use Rattle.figures.specs.Numbers.{bind, value_on, counted, magnitude_of, magnitude, bounded, stored_by, Writes, whole, pointed, Figures, plain, minus, Stores}
use Rattle.figures.proofs.CutSteps.{cut_parted}

-- digits after a number: the first m times the power of ten, and what they write after the second
shift_by : (o : Option ℕ) (bs : List ℕ) (k f m : ℕ) → ((d : ℕ) → value_on (k * 10 + d) bs ≡ Some f → value_on (m * 10 + (k * 10 + d)) bs ≡ Some (m * 10 * 10 ^ length bs + f)) → bind o (λ d. value_on (k * 10 + d) bs) ≡ Some f → bind o (λ d. value_on ((m + k) * 10 + d) bs) ≡ Some (m * 10 ^ suc (length bs) + f)
shift_by None bs k f m h e = cc
shift_by (Some d) bs k f m h e =
    let p : (m + k) * 10 + d ≡ m * 10 + (k * 10 + d) = omega arith in
    let q : m * 10 * 10 ^ length bs ≡ m * 10 ^ suc (length bs) = mul_assoc m 10 (10 ^ length bs) ∙ ap (λ x. m * x) (mul_comm 10 (10 ^ length bs) ∙ sym (pow-suc 10 (length bs))) in
    ap (λ x. value_on x bs) p ∙ h d e ∙ ap (λ x. Some (x + f)) q

value_shift : (ys : List ℕ) (k f m : ℕ) → value_on k ys ≡ Some f → value_on (m + k) ys ≡ Some (m * 10 ^ length ys + f)
value_shift [] k f m e = let p : k ≡ f = cc in let q : m + k ≡ m * 1 + f = omega arith in ap Some q
value_shift (b ∷ bs) k f m e = shift_by (digit_of (mark_of b)) bs k f m (λ d h. value_shift bs (k * 10 + d) f (m * 10) h) e

append_by : (o : Option ℕ) (xs ys : List ℕ) (n w : ℕ) → ((d : ℕ) → value_on (n * 10 + d) xs ≡ Some w → value_on (n * 10 + d) (xs ++ ys) ≡ value_on w ys) → bind o (λ d. value_on (n * 10 + d) xs) ≡ Some w → bind o (λ d. value_on (n * 10 + d) (xs ++ ys)) ≡ value_on w ys
append_by None xs ys n w h e = cc
append_by (Some d) xs ys n w h e = h d e

value_append : (xs ys : List ℕ) (n w : ℕ) → value_on n xs ≡ Some w → value_on n (xs ++ ys) ≡ value_on w ys
value_append [] ys n w e = let p : n ≡ w = cc in ap (λ x. value_on x ys) p
value_append (b ∷ xs) ys n w e = append_by (digit_of (mark_of b)) xs ys n w (λ d h. value_append xs ys (n * 10 + d) w h) e

-- the size of a figure, by its two parts
pointed_size : (d w f len : ℕ) → len ≤ d → (w * 10 ^ d + f * 10 ^ (d - len)) * 10 ^ len ≡ (w * 10 ^ len + f) * 10 ^ d
pointed_size d w f len h =
    let power : 10 ^ (d - len) * 10 ^ len ≡ 10 ^ d = sym (pow-add 10 (d - len) len) ∙ ap (λ x. 10 ^ x) (sub-add_cancel h) in
    add-mul (w * 10 ^ d) (f * 10 ^ (d - len)) (10 ^ len)
    ∙ ap (λ x. w * 10 ^ d * 10 ^ len + x) (mul_assoc f (10 ^ (d - len)) (10 ^ len) ∙ ap (λ x. f * x) power)
    ∙ ap (λ x. x + f * 10 ^ d) (mul_right_comm w (10 ^ d) (10 ^ len))
    ∙ sym (add-mul (w * 10 ^ len) f (10 ^ d))

bind_some : {X Y : Type 0} (o : Option X) (g : X → Option Y) (y : Y) → bind o g ≡ Some y → (x : X) × (o ≡ Some x) × (g x ≡ Some y)
bind_some None g y e = grind arith
bind_some (Some x) g y e = (x, refl, e)

-- what counted says, in parts
counted_parts : (most : ℕ) (bs : List ℕ) (w : ℕ) → counted most bs ≡ Some w → (1 ≤ length bs) × (length bs ≤ most) × (value_on 0 bs ≡ Some w)
counted_parts most bs w e = grind arith

counted_from : (most : ℕ) (bs : List ℕ) (w : ℕ) → 1 ≤ length bs → length bs ≤ most → value_on 0 bs ≡ Some w → counted most bs ≡ Some w
counted_from most bs w a b e = grind arith

-- SOUND: what is read is written
whole_read : (d : ℕ) (bs : List ℕ) (n : ℕ) → magnitude_of d bs None ≡ Some n → Writes d bs n
whole_read d bs n e =
    let p = bind_some (counted 10 bs) (λ w. Some (w * 10 ^ d)) n e in
    let q = counted_parts 10 bs p.0 p.1 in
    let z = p.2 in
    let size : p.0 * 10 ^ d ≡ n = cc in
    subst (λ (x : ℕ). Writes d bs x) size (whole bs p.0 q.0 q.1 q.2)

pointed_read : (d : ℕ) (bs ws fs : List ℕ) (n : ℕ) → bs ≡ ws ++ 46 ∷ fs → magnitude_of d bs (Some (ws, fs)) ≡ Some n → Writes d bs n
pointed_read d bs ws fs n cut_at e =
    let p = bind_some (counted 10 ws) (λ w. bind (counted d fs) (λ f. Some (w * 10 ^ d + f * 10 ^ (d - length fs)))) n e in
    let r = bind_some (counted d fs) (λ f. Some (p.0 * 10 ^ d + f * 10 ^ (d - length fs))) n p.2 in
    let a = counted_parts 10 ws p.0 p.1 in
    let b = counted_parts d fs r.0 r.1 in
    let z = r.2 in
    let size : n ≡ p.0 * 10 ^ d + r.0 * 10 ^ (d - length fs) = cc in
    let w = p.0 in
    let same : w ≡ w + 0 = omega arith in
    let read = value_append ws fs 0 w a.2 ∙ ap (λ x. value_on x fs) same ∙ value_shift fs 0 r.0 w b.2 in
    let scale = ap (λ x. x * 10 ^ length fs) size ∙ pointed_size d w r.0 (length fs) b.1 in
    subst (λ (x : List ℕ). Writes d x n) (sym cut_at) (pointed ws fs (w * 10 ^ length fs + r.0) n a.0 a.1 b.0 b.1 read scale)

read_by : (d : ℕ) (bs : List ℕ) (n : ℕ) (o : Option (List ℕ × List ℕ)) → o ≡ cut 46 bs → magnitude_of d bs o ≡ Some n → Writes d bs n
read_by d bs n None c e = whole_read d bs n e
read_by d bs n (Some p) c e = pointed_read d bs p.0 p.1 n (cut_parted 46 bs p c) e

pub read_writes : (d : ℕ) (bs : List ℕ) (n : ℕ) → magnitude d bs ≡ Some n → Writes d bs n
read_writes d bs n e = read_by d bs n (cut 46 bs) refl e

-- COMPLETE: what is written is read
split_by : (o : Option ℕ) (xs ys : List ℕ) (n v : ℕ) → ((d : ℕ) → value_on (n * 10 + d) (xs ++ ys) ≡ Some v → (w : ℕ) × (value_on (n * 10 + d) xs ≡ Some w) × (value_on w ys ≡ Some v)) → bind o (λ d. value_on (n * 10 + d) (xs ++ ys)) ≡ Some v → (w : ℕ) × (bind o (λ d. value_on (n * 10 + d) xs) ≡ Some w) × (value_on w ys ≡ Some v)
split_by None xs ys n v h e = grind arith
split_by (Some d) xs ys n v h e = h d e

value_split : (xs ys : List ℕ) (n v : ℕ) → value_on n (xs ++ ys) ≡ Some v → (w : ℕ) × (value_on n xs ≡ Some w) × (value_on w ys ≡ Some v)
value_split [] ys n v e = (n, refl, e)
value_split (b ∷ xs) ys n v e = split_by (digit_of (mark_of b)) xs ys n v (λ d h. value_split xs ys (n * 10 + d) v h) e

none_by : (o : Option ℕ) (bs : List ℕ) (k m : ℕ) → ((d : ℕ) → value_on (k * 10 + d) bs ≡ None → value_on (m * 10 + d) bs ≡ None) → bind o (λ d. value_on (k * 10 + d) bs) ≡ None → bind o (λ d. value_on (m * 10 + d) bs) ≡ None
none_by None bs k m h e = refl
none_by (Some d) bs k m h e = h d e

value_none : (bs : List ℕ) (k m : ℕ) → value_on k bs ≡ None → value_on m bs ≡ None
value_none [] k m e = cc
value_none (b ∷ bs) k m e = none_by (digit_of (mark_of b)) bs k m (λ d h. value_none bs (k * 10 + d) (m * 10 + d) h) e

-- digits that write v after w write, alone, what v is above w
unshift_by : (o : Option ℕ) (ys : List ℕ) (w v : ℕ) → value_on 0 ys ≡ o → value_on w ys ≡ Some v → (f : ℕ) × (value_on 0 ys ≡ Some f) × (v ≡ w * 10 ^ length ys + f)
unshift_by None ys w v h e = let z = value_none ys 0 w h in grind arith
unshift_by (Some f) ys w v h e =
    let same : w + 0 ≡ w = omega arith in
    let z = ap (λ x. value_on x ys) (sym same) ∙ value_shift ys 0 f w h in
    (f, h, (cc))

-- no digit is the point
pointless : (b : ℕ) → eqb b 46 ≡ true → digit_of (mark_of b) ≡ None
pointless b e = grind arith

uncut_by : (o : Option ℕ) (t : Bool) (front xs : List ℕ) (b k v : ℕ) → digit_of (mark_of b) ≡ o → eqb b 46 ≡ t → ((d : ℕ) → value_on (k * 10 + d) xs ≡ Some v → cut_on 46 (front ++ b ∷ []) xs ≡ None) → bind o (λ d. value_on (k * 10 + d) xs) ≡ Some v → cond t (Some (front, xs)) (cut_on 46 (front ++ b ∷ []) xs) ≡ None
uncut_by None t front xs b k v p q h e = cc
uncut_by (Some d) true front xs b k v p q h e = let z = pointless b q in cc
uncut_by (Some d) false front xs b k v p q h e = h d e

uncut : (front xs : List ℕ) (k v : ℕ) → value_on k xs ≡ Some v → cut_on 46 front xs ≡ None
uncut front [] k v e = refl
uncut front (b ∷ xs) k v e = uncut_by (digit_of (mark_of b)) (eqb b 46) front xs b k v refl refl (λ d h. uncut (front ++ b ∷ []) xs (k * 10 + d) v h) e

cut_by : (o : Option ℕ) (t : Bool) (front ws fs : List ℕ) (b k w : ℕ) → digit_of (mark_of b) ≡ o → eqb b 46 ≡ t → ((d : ℕ) → value_on (k * 10 + d) ws ≡ Some w → cut_on 46 (front ++ b ∷ []) (ws ++ 46 ∷ fs) ≡ Some ((front ++ b ∷ []) ++ ws, fs)) → bind o (λ d. value_on (k * 10 + d) ws) ≡ Some w → cond t (Some (front, ws ++ 46 ∷ fs)) (cut_on 46 (front ++ b ∷ []) (ws ++ 46 ∷ fs)) ≡ Some (front ++ b ∷ ws, fs)
cut_by None t front ws fs b k w p q h e = cc
cut_by (Some d) true front ws fs b k w p q h e = let z = pointless b q in cc
cut_by (Some d) false front ws fs b k w p q h e = h d e ∙ ap (λ (x : List ℕ). Some (x, fs)) (append_assoc front (b ∷ []) ws)

cut_digits : (front ws fs : List ℕ) (k w : ℕ) → value_on k ws ≡ Some w → cut_on 46 front (ws ++ 46 ∷ fs) ≡ Some (front ++ ws, fs)
cut_digits front [] fs k w e = ap (λ (x : List ℕ). Some (x, fs)) (sym (append-nil front))
cut_digits front (b ∷ ws) fs k w e = cut_by (digit_of (mark_of b)) (eqb b 46) front ws fs b k w refl refl (λ d h. cut_digits (front ++ b ∷ []) ws fs (k * 10 + d) w h) e

-- equal products by a power of ten have equal factors
same_factor : (n m k : ℕ) → n * 10 ^ k ≡ m * 10 ^ k → n ≡ m
same_factor n m k e =
    let p : 0 < 10 ^ k = one-le-pow k 10 (omega arith) in
    sym (mul-div_cancel n p) ∙ ap (λ x. x / 10 ^ k) e ∙ mul-div_cancel m p

pointed_written : (d : ℕ) (ws fs : List ℕ) (v n : ℕ) → 1 ≤ length ws → length ws ≤ 10 → 1 ≤ length fs → length fs ≤ d → value_on 0 (ws ++ fs) ≡ Some v → n * 10 ^ length fs ≡ v * 10 ^ d → magnitude d (ws ++ 46 ∷ fs) ≡ Some n
pointed_written d ws fs v n a b c l e s =
    let p = value_split ws fs 0 v e in
    let q = unshift_by (value_on 0 fs) fs p.0 v refl p.2 in
    let w = p.0 in
    let f = q.0 in
    let size = same_factor (w * 10 ^ d + f * 10 ^ (d - length fs)) n (length fs) (pointed_size d w f (length fs) l ∙ ap (λ x. x * 10 ^ d) (sym q.2) ∙ sym s) in
    ap (magnitude_of d (ws ++ 46 ∷ fs)) (cut_digits [] ws fs 0 w p.1)
    ∙ ap (λ o. bind o (λ x. bind (counted d fs) (λ y. Some (x * 10 ^ d + y * 10 ^ (d - length fs))))) (counted_from 10 ws w a b p.1)
    ∙ ap (λ o. bind o (λ y. Some (w * 10 ^ d + y * 10 ^ (d - length fs)))) (counted_from d fs f c l q.1)
    ∙ ap Some size

pub writes_read : (d : ℕ) (bs : List ℕ) (n : ℕ) → Writes d bs n → magnitude d bs ≡ Some n
writes_read d bs n (whole ws v a b e) =
    ap (magnitude_of d ws) (uncut [] ws 0 v e) ∙ ap (λ o. bind o (λ w. Some (w * 10 ^ d))) (counted_from 10 ws v a b e)
writes_read d bs n (pointed ws fs v m a b c l e s) = pointed_written d ws fs v m a b c l e s

-- a figure with no sign begins with a digit, and so with no minus
first_digit : (xs : List ℕ) (k v : ℕ) → 1 ≤ length xs → value_on k xs ≡ Some v → get_or xs 0 0 ≡ 45 → ⊥
first_digit [] k v l e h = omega arith
first_digit (b ∷ xs) k v l e h =
    let n : digit_of (mark_of b) ≡ None = ap (λ x. digit_of (mark_of x)) h in
    let z : value_on k (b ∷ xs) ≡ None = ap (λ o. bind o (λ d. value_on (k * 10 + d) xs)) n in
    grind arith

first_front : (ws fs : List ℕ) → 1 ≤ length ws → get_or (ws ++ 46 ∷ fs) 0 0 ≡ get_or ws 0 0
first_front [] fs l = absurd (omega arith)
first_front (b ∷ ws) fs l = refl

unsigned : (d : ℕ) (bs : List ℕ) (n : ℕ) → Writes d bs n → get_or bs 0 0 ≡ 45 → ⊥
unsigned d bs n (whole ws v a b e) h = first_digit ws 0 v a e h
unsigned d bs n (pointed ws fs v m a b c l e s) h =
    let p = value_split ws fs 0 v e in first_digit ws 0 p.0 a p.1 (sym (first_front ws fs a) ∙ h)

-- where nothing is read, nothing is written
none_plain : (d : ℕ) (bs : List ℕ) → eqb (get_or bs 0 0) 45 ≡ false → magnitude d bs ≡ None → (m : Bool) (n : ℕ) → Figures d bs m n → ⊥
none_plain d bs f e m n (plain xs k w) = let z = writes_read d xs k w in grind arith
none_plain d bs f e m n (minus xs k w) = true≢false f

none_minus : (d : ℕ) (rest bs : List ℕ) → bs ≡ 45 ∷ rest → magnitude d rest ≡ None → (m : Bool) (n : ℕ) → Figures d bs m n → ⊥
none_minus d rest bs s e m n (plain xs k w) = unsigned d xs k w (ap (λ (x : List ℕ). get_or x 0 0) s)
none_minus d rest bs s e m n (minus xs k w) =
    let q : xs ≡ rest = cc in
    let z = ap (magnitude d) (sym q) ∙ writes_read d xs k w in
    grind arith

bounded_stores : (d : ℕ) (bs : List ℕ) (m : Bool) (o : Option ℕ) → ((n : ℕ) → o ≡ Some n → Figures d bs m n) → (o ≡ None → (k : Bool) (n : ℕ) → Figures d bs k n → ⊥) → Stores d bs (bounded m o)
bounded_stores d bs m None some none = none refl
bounded_stores d bs m (Some n) some none =
    cond_both (leb n most_stored) (Ok (cond m (neg_ℤ (pos n)) (pos n))) (Err Beyond) (Stores d bs)
    (λ t. (m, n, some n refl, leb-true n most_stored t, refl)) (λ f. (m, n, some n refl, leb-false n most_stored f))

stores_by : (d : ℕ) (bs : List ℕ) (t : Bool) → eqb (get_or bs 0 0) 45 ≡ t → Stores d bs (cond t (bounded true (magnitude d (drop 1 bs))) (bounded false (magnitude d bs)))
stores_by d [] true e = absurd (true≢false (sym e))
stores_by d (b ∷ rest) true e =
    let first : b ≡ 45 = eqb-true b 45 e in
    let whole : b ∷ rest ≡ 45 ∷ rest = ap (λ x. x ∷ rest) first in
    bounded_stores d (b ∷ rest) true (magnitude d rest)
    (λ n h. subst (λ (x : List ℕ). Figures d x true n) (sym whole) (minus rest n (read_writes d rest n h)))
    (λ h. none_minus d rest (b ∷ rest) whole h)
stores_by d bs false e =
    bounded_stores d bs false (magnitude d bs) (λ n h. plain bs n (read_writes d bs n h)) (λ h. none_plain d bs e h)

pub stores : (d : ℕ) (bs : List ℕ) → Stores d bs (stored_by d bs)
stores d bs = stores_by d bs (eqb (get_or bs 0 0) 45) refl
