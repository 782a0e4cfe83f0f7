-- Written signed blobs are read as signed.
use Rattle.std.proofs.Common.{◌≡◌, ◌≤◌, ◌==◌, ◌+◌, ◌*◌, ℕ, Bool, true, List, [], ◌∷◌, ◌++◌, codes, length, take, drop, cond, Option, None, Some, option_and_then, option_map, refl, sym, ap, ap₂, ◌∙◌, arith, append_assoc, length-append}
use Rattle.std.specs.Result.{result_ok}
use Rattle.std.specs.Str.{IsUtf8}
use Rattle.std.specs.List.{list_all}
use Rattle.std.proofs.lemmas.Bool.{eq-eqb, and_from}
use Rattle.std.proofs.Math.Seq.{take-append_seam, drop-append-add}
use Rattle.json.proofs.Printed.Utf8.{IsUtf8-are_ascii}
use Rattle.hex.specs.Hex.{encode_lower, decode_sized, lower_digits}
use Rattle.hex.proofs.HexLemmas.{decode_sized-encode_lower, length-encode_with}
use Rattle.serde_json.specs.Data.{Data, string, object, member, no_members}
use Rattle.blobref.specs.Blobref.{is_blobref, is_lower_digit}
use Rattle.blobref.proofs.Spelled.{list_all-encode_lower}
use Rattle.schema_fact.specs.declared.kinds.Kind.{Kind}
use Rattle.schema_fact.specs.declared.kinds.Signed.{Signed}
use Rattle.json_laws.specs.Json.{json_in}
use Rattle.schema_json.specs.Fields.{ref_in, ref_at, type_of}
use Rattle.schema_json.specs.Facts.{key_in, known_kind}
use Rattle.schema_json.specs.Signing.{is_signature, signature_in, signature_of, signature_after, object_of, signed_at, signed_in}
use Rattle.json_laws.proofs.Json.{json_in-text}
use Rattle.json_laws.specs.Written.{Pair, payload_text, object_text, members_of, last_value, read_within, ValuesReadWithin, PairsAreUtf8}
use Rattle.json_laws.specs.Signing.{signature_text, signed_text, signature_pair}
use Rattle.json_laws.proofs.Object.{object_read}
use Rattle.json_laws.proofs.Found.{member_found}
use Rattle.json_laws.proofs.Leaves.{read_quoted}
use Rattle.json_laws.proofs.Utf8.{text_utf8, object_utf8}
use Rattle.json_laws.proofs.Ending.{payload_end}
use Rattle.json_laws.proofs.Signature.{signature_read, signature_utf8, signed_object}
use Rattle.schema_write.specs.Blobs.{signed}
use Rattle.schema_write.specs.Laws.{AreBytes, Says, longest_schema}
use Rattle.schema_write.proofs.Texts.{hex_utf8}
use Rattle.schema_write.proofs.Objects.{no_key, line_read, schema_by, says}

-- ---- one pair more

values_more : (n : ℕ) (ps : List Pair) (q : Pair) → ValuesReadWithin n ps → read_within n q.text ≡ Some q.value → ValuesReadWithin n (ps ++ q ∷ [])
values_more n [] q h last = (last, tt)
values_more n (p ∷ ps) q h last = (h.0, values_more n ps q h.1 last)

utf8_more : (ps : List Pair) (q : Pair) → PairsAreUtf8 ps → IsUtf8 q.key → IsUtf8 q.text → PairsAreUtf8 (ps ++ q ∷ [])
utf8_more [] q h key text = (key, text, tt)
utf8_more (p ∷ ps) q h key text = (h.0, h.1, utf8_more ps q h.2 key text)

-- ---- the signature

signature_is : (sig : List ℕ) → AreBytes 32 sig → signature_in (encode_lower sig) ≡ Some sig
signature_is sig h =
    let digits = encode_lower sig in
    let long : length digits ≡ 64 = omega (arith, h.0, length-encode_with lower_digits sig) in
    let form : is_signature digits ≡ true = and_from (length digits == 64) (list_all is_lower_digit digits) (eq-eqb (length digits) 64 long) (list_all-encode_lower sig h.1) in
    ap (λ (b : Bool). cond b (result_ok (decode_sized digits 32)) None) form ∙ ap result_ok (decode_sized-encode_lower sig 32 h.0 h.1)

after_is : (sig : List ℕ) → AreBytes 32 sig → signature_after (signature_text (encode_lower sig) (codes "\n")) ≡ Some sig
after_is sig h =
    let digits = encode_lower sig in
    let lower = list_all-encode_lower sig h.1 in
    let alone = object (member (codes "camliSig") (string digits) no_members) in
    ap (option_and_then signature_of) (sym (json_in-text (codes "{" ++ signature_text digits (codes "\n")) alone (signature_utf8 digits (codes "\n") lower refl) (signature_read digits (codes "\n") lower refl)))
    ∙ signature_is sig h

pub signed_long : (payload sig : List ℕ) → AreBytes 32 sig → length (signed payload sig) ≡ length payload + 80
unfolding signed
signed_long payload sig h =
    let digits = encode_lower sig in
    let twice : length digits ≡ 2 * length sig = length-encode_with lower_digits sig in
    let few : length sig ≡ 32 = h.0 in
    let front = codes "\"camliSig\":\"" in
    omega (
      arith,
      twice,
      few,
      length-append (payload ++ codes ",") (signature_text digits (codes "\n")),
      length-append payload (codes ","),
      length-append ((front ++ digits) ++ codes "\"}") (codes "\n"),
      length-append (front ++ digits) (codes "\"}"),
      length-append front digits,
    )

pub signed_fits : (payload sig : List ℕ) → AreBytes 32 sig → length payload + 80 ≤ longest_schema → length (signed payload sig) ≤ longest_schema
signed_fits payload sig h fits = let long = signed_long payload sig h in omega (arith, long, fits)

-- ---- the payload

-- a payload that can be signed: its pairs, the first one apart, are read, are UTF-8, and name the signer
pub record IsPayload (p : Pair) (ps : List Pair) (signer : List ℕ) : Type 0 where
  pub values : ValuesReadWithin 126 (p ∷ ps)
  pub utf8 : PairsAreUtf8 (p ∷ ps)
  pub names : last_value (codes "camliSigner") (p ∷ ps) ≡ Some (string signer)
  pub ref : is_blobref signer ≡ true

-- what is signed at the end of a payload
abbrev signed_of : List ℕ → List ℕ → Option (Data × Signed)
signed_of payload rest =
    option_and_then (λ d.
    option_and_then (λ signer.
    option_map (λ sig. (d, record { signer = signer; payload = payload; sig = sig }))
    (signature_after rest))
    (ref_at (codes "camliSigner") d))
    (object_of payload)

pub signed_is : (p : Pair) (ps : List Pair) (signer sig : List ℕ) → IsPayload p ps signer → AreBytes 32 sig
    → signed_in (signed (payload_text (p ∷ ps)) sig)
    ≡ Some (object (members_of (p ∷ ps)), record { signer = signer; payload = payload_text (p ∷ ps); sig = sig })
unfolding signed
signed_is p ps signer sig form h =
    let payload = payload_text (p ∷ ps) in
    let d = object (members_of (p ∷ ps)) in
    let digits = encode_lower sig in
    let rest = signature_text digits (codes "\n") in
    let blob = signed_text payload digits (codes "\n") in
    let whole : blob ≡ payload ++ 44 ∷ rest = append_assoc payload (44 ∷ []) rest in
    let front : take (length payload) blob ≡ payload = ap (take (length payload)) whole ∙ take-append_seam payload (44 ∷ rest) in
    let back : drop (length payload + 1) blob ≡ rest = ap (drop (length payload + 1)) whole ∙ drop-append-add payload (44 ∷ rest) 1 in
    let reads : object_of payload ≡ Some d = sym (json_in-text (object_text (p ∷ ps)) d (object_utf8 (p ∷ ps) form.utf8) (object_read (p ∷ ps) form.values)) in
    let named : ref_at (codes "camliSigner") d ≡ Some signer =
    ap (option_and_then ref_in) (member_found (p ∷ ps) (codes "camliSigner") ∙ form.names) ∙ ap (λ (b : Bool). cond b (Some signer) None) form.ref in
    ap (option_and_then (signed_at blob)) (payload_end payload digits (codes "\n") (list_all-encode_lower sig h.1) refl)
    ∙ ap₂ signed_of front back
    ∙ ap (option_and_then (λ d. option_and_then (λ signer. option_map (λ sig. (d, record { signer = signer; payload = payload; sig = sig })) (signature_after rest)) (ref_at (codes "camliSigner") d))) reads
    ∙ ap (option_and_then (λ signer. option_map (λ sig. (d, record { signer = signer; payload = payload; sig = sig })) (signature_after rest))) named
    ∙ ap (option_map (λ sig. (d, record { signer = signer; payload = payload; sig = sig }))) (after_is sig h)

-- ---- the whole

pub whole_is : (p : Pair) (ps : List Pair) (signer sig : List ℕ) → IsPayload p ps signer → AreBytes 32 sig
    → json_in (signed (payload_text (p ∷ ps)) sig) ≡ Some (object (members_of (p ∷ ps ++ signature_pair (encode_lower sig) ∷ [])))
unfolding signed
whole_is p ps signer sig form h =
    let digits = encode_lower sig in
    let last = signature_pair digits in
    ap json_in (signed_object p ps digits (codes "\n") (list_all-encode_lower sig h.1))
    ∙ line_read (p ∷ ps ++ last ∷ []) (values_more 126 (p ∷ ps) last form.values (read_quoted 126 digits))
    (utf8_more (p ∷ ps) last form.utf8 (IsUtf8-are_ascii (codes "camliSig") refl) (text_utf8 digits (hex_utf8 sig h.1)))

signed_no_key : (p : Pair) (ps : List Pair) (sig : List ℕ) → key_in (signed (payload_text (p ∷ ps)) sig) ≡ None
unfolding signed
signed_no_key p ps sig = no_key (drop 1 (signed_text (payload_text (p ∷ ps)) (encode_lower sig) (codes "\n")))

pub signed_says : (p : Pair) (ps : List Pair) (signer sig type : List ℕ) (kind : Kind) → IsPayload p ps signer → AreBytes 32 sig
    → length (signed (payload_text (p ∷ ps)) sig) ≤ longest_schema
    → type_of (object (members_of (p ∷ ps ++ signature_pair (encode_lower sig) ∷ []))) ≡ Some type
    → known_kind type (signed (payload_text (p ∷ ps)) sig) (object (members_of (p ∷ ps ++ signature_pair (encode_lower sig) ∷ []))) ≡ Some kind
    → Says (signed (payload_text (p ∷ ps)) sig) kind
signed_says p ps signer sig type kind form h fits typed known =
    let blob = signed (payload_text (p ∷ ps)) sig in
    says blob kind (schema_by blob type (object (members_of (p ∷ ps ++ signature_pair (encode_lower sig) ∷ []))) kind (signed_no_key p ps sig) fits (whole_is p ps signer sig form h) typed known)
