-- Shares: what a blob says as one, whether its signature counts, and whether it was deleted.
use Rattle.std.specs.Prelude.{ℕ, ◌&&◌, Bool, false, not, List, codes, length, nat_lt, if◌then◌else◌}
use Rattle.std.specs.Prelude.{Option, Some, None, is_some, is_none, option_and_then, option_map, unwrap_or}
use Rattle.std.specs.List.{list_any}
use Rattle.std.specs.Str.{bytes_eq}
use Rattle.std.specs.FinMap.{get, entries}
use Rattle.serde_json.specs.Data.{Data}
use Rattle.serde_json.specs.Find.{as_bool, get as field}
use Rattle.claim_verify.specs.Verifier.{Accepts}
use Rattle.schema_date.specs.declared.date.When.TheVariants.{Always}
use Rattle.schema_fact.specs.declared.kinds.Signed.{Signed}
use Rattle.json_laws.specs.Json.{json_in}
use Rattle.schema_json.specs.Fields.{text_at, ref_at, has_type}
use Rattle.schema_json.specs.Facts.{date_of}
use Rattle.schema_json.specs.Signing.{signed_in}
use Rattle.claim_model.specs.Facts.{Facts, Content, passes}
use Rattle.claim_model.specs.Genuine.{is_genuine, key_accepts}
use Rattle.claim_model.specs.Deleted.{deletes, is_deleted}
use Rattle.share_model.specs.declared.share.Share.{Share}

-- whether the text under the key is that one
abbrev pub has_text : List ℕ → List ℕ → Data → Bool
has_text key text d = unwrap_or (option_map (bytes_eq text) (text_at key d)) false

-- a truth value, or false where there is no such key
abbrev pub bool_or_false : Option Data → Option Bool
bool_or_false None = Some false
bool_or_false (Some d) = as_bool d

-- whether what the target links to is shared too
abbrev pub transitive_of : Data → Option Bool
transitive_of d = bool_or_false (field (codes "transitive") d)

-- whether it is a claim of the type `share`, for whoever has its ref, with a date and no end
abbrev pub is_share_object : Data → Bool
is_share_object d =
    has_type (codes "claim") d && has_text (codes "claimType") (codes "share") d
    && has_text (codes "authType") (codes "haveref") d && is_some (date_of d) && is_none (field (codes "expires") d)

-- the share that a payload's object says, with what is signed
abbrev pub share_of : Data → Signed → Option Share
share_of d signed =
    if is_share_object d
    then option_and_then (λ target.
    option_map (λ transitive. record { signed = signed; target = target; transitive = transitive })
    (transitive_of d)) (ref_at (codes "target") d)
    else None

-- the share that a signed blob says, by its payload alone
abbrev pub signed_share_in : List ℕ → Option Share
signed_share_in bytes = option_and_then (λ found. share_of found.0 found.1) (signed_in bytes)

-- the share that a blob is: it has at most 1,048,576 bytes, and as a whole it is of the type `claim` too
unfoldable pub share_in : List ℕ → Option Share
share_in bytes =
    if nat_lt 1048576 (length bytes) then None
    else if passes (has_type (codes "claim")) (json_in bytes)
    then signed_share_in bytes
    else None

-- the share that is held under a ref
abbrev pub share_at : Content → List ℕ → Option Share
share_at held s = option_and_then share_in (get held s)

-- the blob of its signer is a key's, and that key accepts the signature
abbrev pub is_genuine_share : Facts → Accepts → Share → Bool
is_genuine_share facts accepts share =
    passes (λ key. key_accepts accepts share.signed key.kind) (get facts share.signed.signer)

-- some genuine delete claim on the share at this ref isn't deleted itself
abbrev pub is_deleted_share : Facts → Accepts → List ℕ → Bool
is_deleted_share facts accepts s =
    list_any (λ e.
    deletes s Always e.1.kind && is_genuine facts accepts e.0 && not (is_deleted facts accepts Always e.0))
    (entries facts)
