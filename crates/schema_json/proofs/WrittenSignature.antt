-- The form in which signatures are written, which is read without JSON.
use Rattle.std.proofs.Common.{◌≡◌, ◌∙◌, ◌==◌, ◌&&◌, Bool, true, false, ℕ, List, ◌++◌, codes, length, Option, Some, None, IfSome, cond, option_and_then, refl, sym, ap, append_assoc}
use Rattle.std.specs.List.{list_all}
use Rattle.std.specs.Result.{result_ok}
use Rattle.hex.specs.Hex.{decode_sized}
use Rattle.serde_json.specs.Data.{string, object, member, no_members}
use Rattle.blobref.specs.Blobref.{is_lower_digit}
use Rattle.json_laws.specs.Signing.{signature_text}
use Rattle.json_laws.proofs.Json.{json_in-text}
use Rattle.json_laws.proofs.Signature.{signature_read, signature_utf8}
use Rattle.schema_json.specs.Signing.{signature_after, signature_in, signature_of}

-- digits that are a signature are lower-case ones
digits_lower : (digits sig : List ℕ) → signature_in digits ≡ Some sig → list_all is_lower_digit digits ≡ true
digits_lower digits sig e = by (length digits == 64) (list_all is_lower_digit digits) refl e
  where
    by : (long lower : Bool) → list_all is_lower_digit digits ≡ lower → cond (long && lower) (result_ok (decode_sized digits 32)) None ≡ Some sig
        → list_all is_lower_digit digits ≡ true
    by long true is e = is
    by true false is e = absurd (cc)
    by false false is e = absurd (cc)

written_read : (rest line digits sig : List ℕ) → rest ≡ codes "\"camliSig\":\"" ++ line → line ≡ digits ++ codes "\"}\n"
    → Some sig ≡ signature_in digits → signature_after rest ≡ Some sig
written_read rest line digits sig front back is =
    let lower = digits_lower digits sig (sym is) in
    let alone = object (member (codes "camliSig") (string digits) no_members) in
    let whole : signature_text digits (codes "\n") ≡ rest =
    append_assoc (codes "\"camliSig\":\"" ++ digits) (codes "\"}") (codes "\n")
    ∙ append_assoc (codes "\"camliSig\":\"") digits (codes "\"}\n")
    ∙ ap (λ (l : List ℕ). codes "\"camliSig\":\"" ++ l) (sym back) ∙ sym front in
    ap signature_after (sym whole)
    ∙ ap (option_and_then signature_of) (sym (json_in-text (codes "{" ++ signature_text digits (codes "\n")) alone (signature_utf8 digits (codes "\n") lower refl) (signature_read digits (codes "\n") lower refl)))
    ∙ sym is

-- what the digits of the written form are is the signature
pub written_if : (found : Option (List ℕ)) (rest line digits : List ℕ) → rest ≡ codes "\"camliSig\":\"" ++ line → line ≡ digits ++ codes "\"}\n"
    → found ≡ signature_in digits → IfSome found (λ sig. signature_after rest ≡ Some sig)
written_if None rest line digits front back is = tt
written_if (Some sig) rest line digits front back is = written_read rest line digits sig front back is
