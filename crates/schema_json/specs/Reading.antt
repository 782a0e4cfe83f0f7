-- How a blob is read: a signed one by its payload and its signature alone, and any other as a whole.
use Rattle.std.specs.Prelude.{ℕ, List, codes, Option, None, option_map, unwrap_or, if◌then◌else◌}
use Rattle.std.specs.Option.{option_or}
use Rattle.std.specs.Str.{bytes_eq}
use Rattle.serde_json.specs.Data.{Data}
use Rattle.schema_fact.specs.declared.kinds.Signed.{Signed}
use Rattle.schema_fact.specs.declared.kinds.Kind.{Kind}
use Rattle.schema_fact.specs.declared.kinds.Kind.TheVariants.{Plain, Unread}
use Rattle.json_laws.specs.Json.{json_in}
use Rattle.schema_json.specs.Fields.{type_of}
use Rattle.schema_json.specs.Signing.{signed_in}
use Rattle.schema_json.specs.Facts.{permanode_of, claim_of, file_kind, bytes_kind, directory_kind, set_kind}

-- what a payload's object says with what is signed
abbrev pub signed_of : Data → Signed → Option Kind
signed_of d signed = option_or (permanode_of d signed) (claim_of d signed)

-- what an object of this type says that needn't be signed, where it meets the conditions of the type
abbrev pub unsigned_kind : List ℕ → Data → Option Kind
unsigned_kind type d =
    if bytes_eq type (codes "file") then file_kind d
    else if bytes_eq type (codes "bytes") then bytes_kind d
    else if bytes_eq type (codes "directory") then directory_kind d
    else if bytes_eq type (codes "static-set") then set_kind d
    else None

abbrev pub unsigned_object : Data → Kind
unsigned_object d = unwrap_or (option_map (λ type. unwrap_or (unsigned_kind type d) (Unread type)) (type_of d)) Plain

-- what a signed blob says: a permanode or a claim, or else what its payload's object says by itself
abbrev pub payload_kind : Data → Signed → Kind
payload_kind d signed = unwrap_or (signed_of d signed) (unsigned_object d)

-- what a blob says that is signed
abbrev pub signed_first : List ℕ → Option Kind
signed_first bytes = option_map (λ found. payload_kind found.0 found.1) (signed_in bytes)

-- what a blob says that isn't signed
abbrev pub unsigned_in : List ℕ → Kind
unsigned_in bytes = unwrap_or (option_map unsigned_object (json_in bytes)) Plain
