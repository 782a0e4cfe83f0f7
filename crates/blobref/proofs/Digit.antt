-- A lower-case digit and its value.
use Rattle.std.proofs.Common.{◌≡◌, ℕ, ◌+◌, ◌*◌, ◌/◌, ◌%◌, ◌<◌, ◌==◌, Bool, true, if◌then◌else◌, List, [], ◌∷◌, ◌++◌, length, take, slice_index, slice_set, refl, sym, ap, ◌∙◌, arith, bit_and, append_assoc}
use Rattle.std.proofs.lemmas.Bool.{agree_below_at, eqb-true}
use Rattle.std.proofs.lemmas.List.{take_more, take_more_set}
use Rattle.hex.specs.Hex.{encode_lower, encode_with, lower_digits}
use Rattle.blobref.specs.Blobref.{is_lower_digit}
use Rattle.blobref.proofs.Spelled.{small_digit}

abbrev is_spelled : ℕ → Bool
is_spelled c = if is_lower_digit c then slice_index lower_digits (bit_and c 15 + 9 * (c / 64)) == c else true

-- the digit stands in the table at its value
pub value_spelled : (c : ℕ) → is_lower_digit c ≡ true → slice_index lower_digits (bit_and c 15 + 9 * (c / 64)) ≡ c
value_spelled c lower =
    let whole : is_spelled c ≡ true = agree_below_at is_spelled (λ _. true) 103 c refl (small_digit c lower) in
    eqb-true _ c (rw lower at whole)

encode_push : (bytes : List ℕ) (byte : ℕ) → encode_lower (bytes ++ byte ∷ [])
    ≡ encode_lower bytes ++ slice_index lower_digits (byte / 16) ∷ slice_index lower_digits (byte % 16) ∷ []
unfolding encode_with
encode_push [] byte = refl
encode_push (b ∷ rest) byte = ap (λ l. slice_index lower_digits (b / 16) ∷ slice_index lower_digits (b % 16) ∷ l) (encode_push rest byte)

-- one byte more is written
pub decode_more : (digits bytes : List ℕ) (i high low : ℕ) → i < length bytes → 2 * i + 1 < length digits → high < 16 → low < 16
    → slice_index lower_digits high ≡ slice_index digits (2 * i) → slice_index lower_digits low ≡ slice_index digits (2 * i + 1)
    → encode_lower (take i bytes) ≡ take (2 * i) digits
    → encode_lower (take (i + 1) (slice_set bytes i (16 * high + low))) ≡ take (2 * (i + 1)) digits
decode_more digits bytes i high low fits there h l eh el done =
    let two : 2 * (i + 1) ≡ 2 * i + 1 + 1 = omega arith in
    let over : (16 * high + low) / 16 ≡ high = omega (arith, l) in
    let under : (16 * high + low) % 16 ≡ low = omega (arith, l) in
    ap encode_lower (take_more_set bytes i (16 * high + low) fits)
    ∙ encode_push (take i bytes) (16 * high + low)
    ∙ rw (over, under, eh, el, done, two, take_more digits (2 * i + 1) 0 there, take_more digits (2 * i) 0 (omega (arith, there)))
    (sym (append_assoc (take (2 * i) digits) (slice_index digits (2 * i) ∷ []) (slice_index digits (2 * i + 1) ∷ [])))
