-- A place of a book as bytes, low byte first. Assumes nothing.
use Rattle.std.specs.Prelude.{ℕ, ℤ, Bool, cond, List, [], ◌∷◌, ◌++◌, ◌+◌, ◌%◌, ◌==◌, ◌&&◌, map, take, drop, nat_le, slice_index}
use Rattle.std.specs.Int.{w16, w64, cast_signed, cast_unsigned, to_le_bytes, from_le_bytes}
use Rattle.std.specs.List.{flat_map}
use Rattle.std.specs.Simd.{first_chunks}
use Rattle.amounts.specs.declared.row.Amounts.{Amounts}
use Rattle.books.specs.declared.place.Place.{Place}

-- eight bytes, two's complement
unfoldable pub word : ℤ → List ℕ
word z = to_le_bytes w64 (cast_unsigned w64 z)

-- each amount's bytes in a list of their own
abbrev pub words : Amounts → List (List ℕ)
words a = word a.reactive ∷ word a.held ∷ word a.load ∷ []

-- three amounts, 24 bytes
abbrev pub amounts_bytes : Amounts → List ℕ
amounts_bytes a = word a.reactive ++ (word a.held ++ word a.load)

-- one if reserved, and two if billed
abbrev pub mark : Place → ℕ
mark x = cond x.reserved 1 0 + cond x.billed 2 0

-- the mark, a zero byte, the day and four zero bytes
abbrev pub head_bytes : Place → List ℕ
head_bytes x = mark x ∷ 0 ∷ (to_le_bytes w16 x.day ++ (0 ∷ 0 ∷ 0 ∷ 0 ∷ []))

-- the bytes of a place: its head, then each entity's amounts
unfoldable pub place_bytes : Place → List ℕ
place_bytes x = head_bytes x ++ flat_map amounts_bytes x.amounts

-- what eight bytes say
abbrev pub amount_of : List ℕ → ℤ
amount_of bs = cast_signed w64 (from_le_bytes w64 bs)

-- what 24 bytes say
abbrev pub amounts_of : List ℕ → Amounts
amounts_of bs = record { reactive = amount_of (take 8 bs); held = amount_of (take 8 (drop 8 bs)); load = amount_of (take 8 (drop 16 bs)) }

-- the amounts of 64 entities, after the head of a place
unfoldable pub all_amounts : List ℕ → List Amounts
all_amounts bs = map amounts_of (first_chunks 24 64 (drop 8 bs))

-- what the bytes of a place say
unfoldable pub place_of : List ℕ → Place
place_of bs = record {
  day = from_le_bytes w16 (slice_index bs 2 ∷ slice_index bs 3 ∷ []);
  reserved = slice_index bs 0 % 2 == 1;
  billed = nat_le 2 (slice_index bs 0);
  amounts = all_amounts bs;
}

-- the mark is at most 3: it says nothing but reserved and billed
abbrev pub is_marked : List ℕ → Bool
is_marked bs = nat_le (slice_index bs 0) 3

-- the bytes that say nothing are zero
abbrev pub is_filled : List ℕ → Bool
is_filled bs = slice_index bs 1 == 0 && (slice_index bs 4 == 0 && (slice_index bs 5 == 0 && (slice_index bs 6 == 0 && slice_index bs 7 == 0)))

abbrev pub is_formed : List ℕ → Bool
is_formed bs = is_marked bs && is_filled bs
