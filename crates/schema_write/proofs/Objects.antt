-- Written schema objects are read.
use Rattle.std.proofs.Common.{◌≡◌, ◌≤◌, ◌==◌, ℕ, Bool, true, false, List, [], ◌∷◌, codes, length, nat_lt, cond, Option, None, Some, option_and_then, option_map, refl, ap, ◌∙◌, arith}
use Rattle.std.specs.Prelude.{unwrap_or, if◌then◌else◌}
use Rattle.std.specs.Str.{IsUtf8, is_utf8}
use Rattle.std.specs.Option.{option_or}
use Rattle.std.proofs.lemmas.Str.{IsUtf8-append, is_utf8-from_IsUtf8}
use Rattle.std.proofs.lemmas.Bool.Decides.{nat_tests}
use Rattle.json.proofs.Printed.Utf8.{IsUtf8-are_ascii}
use Rattle.serde_json.specs.Data.{Data, string, number, unsigned, object}
use Rattle.serde_json.specs.Find.{as_str}
use Rattle.serde_json.specs.Read.{read}
use Rattle.schema_fact.specs.declared.kinds.Kind.{Kind}
use Rattle.schema_fact.specs.declared.kinds.Kind.TheVariants.{Plain, Key, Unread}
use Rattle.json_laws.specs.Json.{json_in, whole_in}
use Rattle.schema_json.specs.Fields.{text_at, whole_at, type_of}
use Rattle.schema_json.specs.Facts.{key_in, key_blob, object_kind, known_kind, schema_kind, kind_of, fact_of}
use Rattle.schema_json.proofs.KeyBlobs.{key_in-other, key_in-key_blob}
use Rattle.json_laws.specs.Written.{Pair, object_text, members_of, last_value, ValuesReadWithin, PairsAreUtf8}
use Rattle.json_laws.proofs.Object.{object_read}
use Rattle.json_laws.proofs.Found.{member_found}
use Rattle.json_laws.proofs.Leaves.{read_quoted, read_decimal}
use Rattle.json_laws.proofs.Space.{space_read}
use Rattle.json_laws.proofs.Utf8.{text_utf8, object_utf8}
use Rattle.schema_write.specs.Blobs.{schema_pairs, object_line}
use Rattle.schema_write.specs.Laws.{Says, KeysAreRead}
use Rattle.schema_write.proofs.Texts.{decimal_utf8}

begins : List ℕ → ℕ
begins [] = 0
begins (x ∷ xs) = x

-- what begins with a brace is no key
pub no_key : (rest : List ℕ) → key_in (123 ∷ rest) ≡ None
unfolding begins
no_key rest = key_in-other (123 ∷ rest) (λ name e. let bad : 123 ≡ 112 = ap begins e in absurd (omega (arith, bad)))

pub line_read : (ps : List Pair) → ValuesReadWithin 126 ps → PairsAreUtf8 ps → json_in (object_line ps) ≡ Some (object (members_of ps))
line_read ps values utf8 =
    let all : is_utf8 (object_line ps) ≡ true = is_utf8-from_IsUtf8 _ (IsUtf8-append (object_text ps) (10 ∷ []) (object_utf8 ps utf8) (IsUtf8-are_ascii (10 ∷ []) refl)) in
    ap (λ (b : Bool). cond b (read (object_line ps)) None) all
    ∙ space_read 127 (object_text ps) (10 ∷ []) (object (members_of ps)) (object_read ps values) refl

pub schema_by : (bytes type : List ℕ) (d : Data) (kind : Kind) → key_in bytes ≡ None → length bytes ≤ 1048576 → json_in bytes ≡ Some d → type_of d ≡ Some type → known_kind type bytes d ≡ Some kind → kind_of bytes ≡ kind
schema_by bytes type d kind key short reads typed known =
    let fits : nat_lt 1048576 (length bytes) ≡ false = grind (arith, nat_tests, short) in
    ap (λ (o : Option (List ℕ)). unwrap_or (option_map Key o) (schema_kind bytes)) key
    ∙ ap (λ (b : Bool). cond b Plain (unwrap_or (option_map (object_kind bytes) (json_in bytes)) Plain)) fits
    ∙ ap (λ (o : Option Data). unwrap_or (option_map (object_kind bytes) o) Plain) reads
    ∙ ap (λ (o : Option (List ℕ)). unwrap_or (option_map (λ t. unwrap_or (known_kind t bytes d) (Unread t)) o) Plain) typed
    ∙ ap (λ (o : Option Kind). unwrap_or o (Unread type)) known

pub type_is : (type : List ℕ) (pairs : List Pair) → last_value (codes "camliVersion") pairs ≡ None → last_value (codes "camliType") pairs ≡ None → type_of (object (members_of (schema_pairs type pairs))) ≡ Some type
type_is type pairs no_version no_type =
    let d = object (members_of (schema_pairs type pairs)) in
    let version : whole_at (codes "camliVersion") d ≡ Some 1 =
    ap (option_and_then whole_in) (member_found (schema_pairs type pairs) (codes "camliVersion") ∙ ap (λ (o : Option Data). option_or (option_or o None) (Some (number (unsigned 1)))) no_version) in
    let named : text_at (codes "camliType") d ≡ Some type =
    ap (option_and_then as_str) (member_found (schema_pairs type pairs) (codes "camliType") ∙ ap (λ (o : Option Data). option_or (option_or o (Some (string type))) None) no_type) in
    ap (option_and_then (λ v. if v == 1 then text_at (codes "camliType") d else None)) version ∙ named

pub schema_values : (type : List ℕ) (pairs : List Pair) → ValuesReadWithin 126 pairs → ValuesReadWithin 126 (schema_pairs type pairs)
schema_values type pairs h = (read_decimal 126 1 (omega arith), (read_quoted 126 type, h))

pub schema_utf8 : (type : List ℕ) (pairs : List Pair) → IsUtf8 type → PairsAreUtf8 pairs → PairsAreUtf8 (schema_pairs type pairs)
schema_utf8 type pairs t h = (IsUtf8-are_ascii (codes "camliVersion") refl, decimal_utf8 1 (omega arith), (IsUtf8-are_ascii (codes "camliType") refl, text_utf8 type t, h))

pub says : (blob : List ℕ) (kind : Kind) → kind_of blob ≡ kind → Says blob kind
unfolding fact_of
says blob kind e = λ i. record { size = length blob; kind = e i }

pub key_read : KeysAreRead
key_read name named =
    let found : key_in (key_blob name) ≡ Some name = key_in-key_blob (key_blob name) name refl ∙ ap (λ (b : Bool). if b then Some name else None) named in
    says (key_blob name) (Key name) (ap (λ (o : Option (List ℕ)). unwrap_or (option_map Key o) (schema_kind (key_blob name))) found)
