-- Texts within written blobs: what is UTF-8 in them, and how long they are.
use Rattle.std.proofs.Common.{◌≡◌, ℕ, ◌+◌, ◌*◌, ◌%◌, ◌/◌, ◌≤◌, ◌<◌, ◌^◌, Bool, true, false, cond, nat_lt, List, [], ◌∷◌, ◌++◌, codes, length, decimal, inl, inr, refl, sym, subst, arith, append_assoc, length-append}
use Rattle.std.proofs.lemmas.Fmt.{IsAscii-decimal}
use Rattle.std.proofs.lemmas.Str.{IsUtf8-append, IsUtf8-from_ascii}
use Rattle.std.specs.Char.{digit_char}
use Rattle.std.specs.Str.{IsUtf8}
use Rattle.json.specs.Print.{quoted, escape, escape_byte, escape_letter}
use Rattle.json.proofs.Printed.Utf8.{IsUtf8-are_ascii}
use Rattle.blobref.specs.Blobref.{is_blobref, sha1_name, sha224_name}
use Rattle.blobref.proofs.Spelled.{blobref_parts, list_all-encode_lower}
use Rattle.hex.specs.Hex.{IsBytes, encode_lower}
use Rattle.json_laws.specs.Signing.{signed_text}
use Rattle.json_laws.proofs.Signature.{digits_ascii}

pub blobref_utf8 : (r : List ℕ) → is_blobref r ≡ true → IsUtf8 r
blobref_utf8 r h =
    let parts = blobref_parts r h in
    let name : IsUtf8 parts.name =
    elim parts.form [
      | inl f ↦ subst IsUtf8 (sym f.0) (IsUtf8-are_ascii sha1_name refl)
      | inr f ↦ subst IsUtf8 (sym f.0) (IsUtf8-are_ascii sha224_name refl)
    ] in
    subst IsUtf8 (sym parts.whole) (IsUtf8-append parts.name parts.digits name (IsUtf8-are_ascii parts.digits (digits_ascii parts.digits parts.lower)))

pub hex_utf8 : (bytes : List ℕ) → IsBytes bytes → IsUtf8 (encode_lower bytes)
hex_utf8 bytes h = IsUtf8-are_ascii (encode_lower bytes) (digits_ascii (encode_lower bytes) (list_all-encode_lower bytes h))

pub decimal_utf8 : (n : ℕ) → n < 2 ^ 64 → IsUtf8 (decimal n)
decimal_utf8 n h = IsUtf8-from_ascii (decimal n) (IsAscii-decimal n h)

-- ---- lengths

escape_byte_short : (x : ℕ) → length (escape_byte x) ≤ 6
unfolding escape_byte
escape_byte_short x = by (nat_lt 0 (escape_letter x)) (nat_lt x 32)
  where
    by : (a b : Bool) → length (cond a (92 ∷ escape_letter x ∷ []) (cond b (92 ∷ 117 ∷ 48 ∷ 48 ∷ digit_char (x / 16) ∷ digit_char (x % 16) ∷ []) (x ∷ []))) ≤ 6
    by true b = omega arith
    by false true = omega arith
    by false false = omega arith

pub escape_short : (s : List ℕ) → length (escape s) ≤ 6 * length s
escape_short [] = omega arith
escape_short (x ∷ s) = omega (arith, escape_byte_short x, escape_short s, length-append (escape_byte x) (escape s))

pub quoted_short : (s : List ℕ) → length (quoted s) ≤ 6 * length s + 2
quoted_short s = omega (arith, escape_short s, length-append (escape s) (34 ∷ []))

-- ---- the pieces of a signed blob

pub signed_pieces : (payload digits : List ℕ) → ((payload ++ codes ",\"camliSig\":\"") ++ digits) ++ codes "\"}\n" ≡ signed_text payload digits (codes "\n")
signed_pieces payload digits = simp append_assoc
