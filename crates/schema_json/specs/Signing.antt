-- Signed blobs: a payload, the marker `,"camliSig":"`, and the signature's digits.
use Rattle.std.specs.Prelude.{ℕ, ◌+◌, ◌==◌, ◌&&◌, Bool, false, List, ◌++◌, codes, length, take, drop, Option, None, option_and_then, option_map, unwrap_or, if◌then◌else◌}
use Rattle.std.specs.List.{list_all}
use Rattle.std.specs.Result.{result_ok}
use Rattle.serde_json.specs.Data.{Data}
use Rattle.serde_json.specs.Events.{members_len}
use Rattle.serde_json.specs.Find.{as_object}
use Rattle.hex.specs.Hex.{decode_sized}
use Rattle.blobref.specs.Blobref.{is_lower_digit}
use Rattle.claim_verify.specs.Split.{split_of}
use Rattle.json_laws.specs.Json.{json_in}
use Rattle.schema_json.specs.Fields.{ref_at, text_at}
use Rattle.schema_fact.specs.declared.kinds.Signed.{Signed}

-- 64 lower-case hexadecimal digits
abbrev pub is_signature : List ℕ → Bool
is_signature text = (length text == 64) && list_all is_lower_digit text

-- the 32 bytes that the digits of a signature are
abbrev pub signature_in : List ℕ → Option (List ℕ)
signature_in text = if is_signature text then result_ok (decode_sized text 32) else None

-- an object with one key
abbrev pub has_one_key : Data → Bool
has_one_key d = unwrap_or (option_map (λ members. members_len members == 1) (as_object d)) false

-- the signature of an object that has the one key `camliSig`
abbrev pub signature_of : Data → Option (List ℕ)
signature_of d = if has_one_key d then option_and_then signature_in (text_at (codes "camliSig") d) else None

-- what follows the comma of the marker is, with a brace before it, the object of the signature
abbrev pub signature_after : List ℕ → Option (List ℕ)
signature_after rest = option_and_then signature_of (json_in (codes "{" ++ rest))

-- the object that a payload is with a brace after it
abbrev pub object_of : List ℕ → Option Data
object_of payload = json_in (payload ++ codes "}")

-- the payload's object, with what is signed, where the payload ends at this place
abbrev pub signed_at : List ℕ → ℕ → Option (Data × Signed)
signed_at blob end =
    option_and_then (λ d.
    option_and_then (λ signer.
    option_map (λ sig. (d, record { signer = signer; payload = take end blob; sig = sig }))
    (signature_after (drop (end + 1) blob)))
    (ref_at (codes "camliSigner") d))
    (object_of (take end blob))

-- the payload ends at the last marker
abbrev pub signed_in : List ℕ → Option (Data × Signed)
signed_in blob = option_and_then (signed_at blob) (split_of blob)
