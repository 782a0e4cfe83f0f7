-- Written permanodes and claims are read.
use Rattle.std.proofs.Common.{◌≡◌, ◌≤◌, ◌+◌, ◌*◌, ℕ, ℤ, Bool, true, false, List, [], ◌∷◌, ◌++◌, codes, length, drop, replicate, Option, None, Some, option_and_then, option_map, refl, ap, ◌∙◌, arith, length-append}
use Rattle.std.specs.Prelude.{unwrap_or, if◌then◌else◌}
use Rattle.std.specs.Str.{IsUtf8, bytes_eq}
use Rattle.std.specs.Fmt.{digits}
use Rattle.std.specs.Option.{option_or}
use Rattle.json.specs.Print.{quoted, escape_byte}
use Rattle.json.proofs.Printed.Utf8.{IsUtf8-are_ascii}
use Rattle.hex.specs.Hex.{encode_lower, lower_digits}
use Rattle.hex.proofs.HexLemmas.{length-encode_with}
use Rattle.serde_json.specs.Data.{Data, string, object}
use Rattle.blobref.specs.Blobref.{is_blobref}
use Rattle.blobref.proofs.Spelled.{blobref_short}
use Rattle.schema_date.specs.Dates.{date_in}
use Rattle.schema_date.specs.DateTexts.{IsDateText}
use Rattle.schema_date.proofs.DateUtf8.{date_utf8}
use Rattle.schema_date.proofs.WrittenDates.{written_date_is_read}
use Rattle.schema_fact.specs.declared.kinds.Kind.TheVariants.{Permanode, Claim}
use Rattle.schema_fact.specs.declared.kinds.Signed.{Signed}
use Rattle.schema_fact.specs.declared.kinds.What.{What}
use Rattle.schema_fact.specs.declared.kinds.What.TheVariants.{Set, Add, Del, Delete, Multi}
use Rattle.schema_json.specs.Fields.{text_or_empty, type_of}
use Rattle.schema_json.specs.Facts.{permanode_of, claim_of, what_by, what_of, date_of}
use Rattle.schema_json.proofs.Changes.{set_is, add_is, del_is}
use Rattle.json_laws.specs.Written.{Pair, payload_text, members_of, last_value, ValuesReadWithin, PairsAreUtf8}
use Rattle.json_laws.specs.Signing.{signature_pair}
use Rattle.json_laws.proofs.Found.{member_found}
use Rattle.json_laws.proofs.Leaves.{read_quoted}
use Rattle.schema_write.specs.Blobs.{text_pair, number_pair, schema_pairs, permanode_pairs, permanode_payload, claim_type, what_pairs, claim_pairs, claim_payload, signed}
use Rattle.blobref.proofs.Spelled.{IsBytes-from_test}
use Rattle.schema_write.specs.Laws.{AreBytes, Says, IsChange, MayBeSaid, PermanodesAreRead, ClaimsAreRead, longest_schema, signature_length}
use Rattle.schema_write.proofs.Texts.{blobref_utf8, hex_utf8, quoted_short}
use Rattle.schema_write.proofs.ChangesRead.{text_pair_utf8, text_is, ref_is, named_is, changes_values, multi_is, changes_utf8}
use Rattle.schema_write.proofs.Objects.{type_is, schema_values, schema_utf8}
use Rattle.schema_write.proofs.SignedRead.{IsPayload, signed_long, signed_is, signed_says}

-- whether a type is the one asked
abbrev has_type_by : List ℕ → Option (List ℕ) → Bool
has_type_by name found = unwrap_or (option_map (λ type. bytes_eq type name) found) false

-- ---- permanodes

permanode_form : (signer random : List ℕ) → is_blobref signer ≡ true → AreBytes 16 random
    → IsPayload (number_pair (codes "camliVersion") 1) (drop 1 (permanode_pairs signer random)) signer
permanode_form signer random ref bytes =
    let rest = text_pair (codes "camliSigner") signer ∷ text_pair (codes "random") (encode_lower random) ∷ [] in
    record {
      values = schema_values (codes "permanode") rest (read_quoted 126 signer, (read_quoted 126 (encode_lower random), tt));
      utf8 = schema_utf8 (codes "permanode") rest (IsUtf8-are_ascii (codes "permanode") refl)
          (text_pair_utf8 (codes "camliSigner") signer (text_pair (codes "random") (encode_lower random) ∷ []) (IsUtf8-are_ascii (codes "camliSigner") refl) (blobref_utf8 signer ref)
          (text_pair_utf8 (codes "random") (encode_lower random) [] (IsUtf8-are_ascii (codes "random") refl) (hex_utf8 random bytes.1) tt));
      names = refl;
      ref = ref;
    }

-- the payload of a permanode, as it stands
permanode_text : (signer marks : List ℕ)
    → payload_text (schema_pairs (codes "permanode") (text_pair (codes "camliSigner") signer ∷ text_pair (codes "random") marks ∷ []))
    ≡ codes "{\"camliVersion\":1,\"camliType\":\"permanode\",\"camliSigner\":" ++ (quoted signer ++ (codes ",\"random\":" ++ (quoted marks ++ [])))
unfolding escape_byte digits
permanode_text signer marks = refl

four_long : (a b c d : List ℕ) → length (a ++ (b ++ (c ++ (d ++ [])))) ≡ length a + (length b + (length c + length d))
four_long a b c d = omega (arith, length-append a (b ++ (c ++ (d ++ []))), length-append b (c ++ (d ++ [])), length-append c (d ++ []), length-append d [])

-- a permanode is short
permanode_short : (signer random sig : List ℕ) → is_blobref signer ≡ true → AreBytes 16 random → AreBytes 32 sig
    → length (signed (payload_text (permanode_pairs signer random)) sig) ≤ longest_schema
permanode_short signer random sig ref bytes h =
    let marks = encode_lower random in
    let long = blobref_short signer ref in
    let twice : length marks ≡ 2 * length random = length-encode_with lower_digits random in
    let few : length random ≡ 16 = bytes.0 in
    let signs = quoted_short signer in
    let more = quoted_short marks in
    let is : length (payload_text (permanode_pairs signer random)) ≡ 56 + (length (quoted signer) + (10 + length (quoted marks))) =
    ap length (permanode_text signer marks) ∙ four_long (codes "{\"camliVersion\":1,\"camliType\":\"permanode\",\"camliSigner\":") (quoted signer) (codes ",\"random\":") (quoted marks) in
    let whole = signed_long (payload_text (permanode_pairs signer random)) sig h in
    omega (arith, is, whole, long, twice, few, signs, more)

-- so its payload leaves room for a signature
pub permanode_fits : (signer random : List ℕ) → is_blobref signer ≡ true → AreBytes 16 random
    → length (permanode_payload signer random) + signature_length ≤ longest_schema
unfolding permanode_payload
permanode_fits signer random ref bytes =
    let sig = replicate 32 0 in
    let h : AreBytes 32 sig = (refl, IsBytes-from_test sig refl) in
    omega (arith, permanode_short signer random sig ref bytes h, signed_long (payload_text (permanode_pairs signer random)) sig h)

pub permanode_read : PermanodesAreRead
unfolding permanode_payload
permanode_read signer random sig ref bytes h =
    let p = number_pair (codes "camliVersion") 1 in
    let ps = drop 1 (permanode_pairs signer random) in
    let d = object (members_of (p ∷ ps)) in
    let fact : Signed = record { signer = signer; payload = payload_text (p ∷ ps); sig = sig } in
    let form = permanode_form signer random ref bytes in
    let more = text_pair (codes "camliSigner") signer ∷ text_pair (codes "random") (encode_lower random) ∷ [] in
    signed_says p ps signer sig (codes "permanode") (Permanode fact) form h (permanode_short signer random sig ref bytes h)
    (type_is (codes "permanode") (more ++ signature_pair (encode_lower sig) ∷ []) refl refl)
    (ap (option_and_then (λ found. permanode_of found.0 found.1)) (signed_is p ps signer sig form h)
    ∙ ap (λ (o : Option (List ℕ)). if has_type_by (codes "permanode") o then Some (Permanode fact) else None) (type_is (codes "permanode") more refl refl))

-- ---- claims

said : (ps : List Pair) (type : List ℕ) (what : What) → last_value (codes "claimType") ps ≡ Some (string type) → what_by type (object (members_of ps)) ≡ Some what → what_of (object (members_of ps)) ≡ Some what
said ps type what typed is = ap (option_and_then (λ t. what_by t (object (members_of ps)))) (text_is ps (codes "claimType") type typed) ∙ is

what_is : (signer date : List ℕ) (what : What) → MayBeSaid what → what_of (object (members_of (claim_pairs signer date what))) ≡ Some what
what_is signer date (Set on attr value) may =
    let ps = claim_pairs signer date (Set on attr value) in
    said ps (codes "set-attribute") (Set on attr value) refl
    (set_is (object (members_of ps)) on attr value (ref_is ps (codes "permaNode") on may.on_ref refl) (named_is ps attr may.named refl) (text_is ps (codes "value") value refl))
what_is signer date (Add on attr value) may =
    let ps = claim_pairs signer date (Add on attr value) in
    said ps (codes "add-attribute") (Add on attr value) refl
    (add_is (object (members_of ps)) on attr value (ref_is ps (codes "permaNode") on may.on_ref refl) (named_is ps attr may.named refl) (text_is ps (codes "value") value refl))
what_is signer date (Del on attr []) may =
    let ps = claim_pairs signer date (Del on attr []) in
    said ps (codes "del-attribute") (Del on attr []) refl
    (del_is (object (members_of ps)) on attr [] (ref_is ps (codes "permaNode") on may.on_ref refl) (named_is ps attr may.named refl) (ap text_or_empty (member_found ps (codes "value"))))
what_is signer date (Del on attr (c ∷ cs)) may =
    let ps = claim_pairs signer date (Del on attr (c ∷ cs)) in
    said ps (codes "del-attribute") (Del on attr (c ∷ cs)) refl
    (del_is (object (members_of ps)) on attr (c ∷ cs) (ref_is ps (codes "permaNode") on may.on_ref refl) (named_is ps attr may.named refl) (ap text_or_empty (member_found ps (codes "value"))))
what_is signer date (Delete target) may =
    let ps = claim_pairs signer date (Delete target) in
    said ps (codes "delete") (Delete target) refl (ap (option_map Delete) (ref_is ps (codes "target") target may refl))
what_is signer date (Multi changes) may =
    let ps = claim_pairs signer date (Multi changes) in
    said ps (codes "multi") (Multi changes) refl (multi_is changes (object (members_of ps)) may.0 may.1 (member_found ps (codes "changes")))

what_values : (what : What) → ValuesReadWithin 126 (what_pairs what)
what_values (Set on attr value) = (read_quoted 126 on, (read_quoted 126 attr, (read_quoted 126 value, tt)))
what_values (Add on attr value) = (read_quoted 126 on, (read_quoted 126 attr, (read_quoted 126 value, tt)))
what_values (Del on attr []) = (read_quoted 126 on, (read_quoted 126 attr, tt))
what_values (Del on attr (c ∷ cs)) = (read_quoted 126 on, (read_quoted 126 attr, (read_quoted 126 (c ∷ cs), tt)))
what_values (Delete target) = (read_quoted 126 target, tt)
what_values (Multi changes) = changes_values changes

change_utf8 : (on attr value : List ℕ) (more : List Pair) → IsChange on attr value → PairsAreUtf8 more
    → PairsAreUtf8 (text_pair (codes "permaNode") on ∷ text_pair (codes "attribute") attr ∷ more)
change_utf8 on attr value more may h =
    text_pair_utf8 (codes "permaNode") on (text_pair (codes "attribute") attr ∷ more) (IsUtf8-are_ascii (codes "permaNode") refl) (blobref_utf8 on may.on_ref)
    (text_pair_utf8 (codes "attribute") attr more (IsUtf8-are_ascii (codes "attribute") refl) may.attr_utf8 h)

value_utf8 : (value : List ℕ) → IsUtf8 value → PairsAreUtf8 (text_pair (codes "value") value ∷ [])
value_utf8 value h = text_pair_utf8 (codes "value") value [] (IsUtf8-are_ascii (codes "value") refl) h tt

what_utf8 : (what : What) → MayBeSaid what → PairsAreUtf8 (what_pairs what)
what_utf8 (Set on attr value) may = change_utf8 on attr value (text_pair (codes "value") value ∷ []) may (value_utf8 value may.value_utf8)
what_utf8 (Add on attr value) may = change_utf8 on attr value (text_pair (codes "value") value ∷ []) may (value_utf8 value may.value_utf8)
what_utf8 (Del on attr []) may = change_utf8 on attr [] [] may tt
what_utf8 (Del on attr (c ∷ cs)) may = change_utf8 on attr (c ∷ cs) (text_pair (codes "value") (c ∷ cs) ∷ []) may (value_utf8 (c ∷ cs) may.value_utf8)
what_utf8 (Delete target) may = text_pair_utf8 (codes "target") target [] (IsUtf8-are_ascii (codes "target") refl) (blobref_utf8 target may) tt
what_utf8 (Multi changes) may = changes_utf8 changes may.1

type_utf8 : (what : What) → IsUtf8 (claim_type what)
type_utf8 (Set on attr value) = IsUtf8-are_ascii (codes "set-attribute") refl
type_utf8 (Add on attr value) = IsUtf8-are_ascii (codes "add-attribute") refl
type_utf8 (Del on attr value) = IsUtf8-are_ascii (codes "del-attribute") refl
type_utf8 (Delete target) = IsUtf8-are_ascii (codes "delete") refl
type_utf8 (Multi changes) = IsUtf8-are_ascii (codes "multi") refl

-- the keys of all claims stand nowhere else
abbrev Apart : List Pair → Type 0
Apart ps =
    (last_value (codes "camliVersion") ps ≡ None) × (last_value (codes "camliType") ps ≡ None)
    × (last_value (codes "camliSigner") ps ≡ None) × (last_value (codes "claimDate") ps ≡ None)

apart : (what : What) → Apart (what_pairs what)
apart (Set on attr value) = (refl, refl, refl, refl)
apart (Add on attr value) = (refl, refl, refl, refl)
apart (Del on attr []) = (refl, refl, refl, refl)
apart (Del on attr (c ∷ cs)) = (refl, refl, refl, refl)
apart (Delete target) = (refl, refl, refl, refl)
apart (Multi changes) = (refl, refl, refl, refl)

apart_signed : (what : What) (digits : List ℕ) → Apart (what_pairs what ++ signature_pair digits ∷ [])
apart_signed (Set on attr value) digits = (refl, refl, refl, refl)
apart_signed (Add on attr value) digits = (refl, refl, refl, refl)
apart_signed (Del on attr []) digits = (refl, refl, refl, refl)
apart_signed (Del on attr (c ∷ cs)) digits = (refl, refl, refl, refl)
apart_signed (Delete target) digits = (refl, refl, refl, refl)
apart_signed (Multi changes) digits = (refl, refl, refl, refl)

-- what stands between the type and what the claim says
abbrev middle : List ℕ → List ℕ → What → List Pair → List Pair
middle signer date what more =
    text_pair (codes "camliSigner") signer ∷ text_pair (codes "claimDate") date ∷ text_pair (codes "claimType") (claim_type what) ∷ more

claim_typed : (signer date : List ℕ) (what : What) (more : List Pair) → Apart more → type_of (object (members_of (schema_pairs (codes "claim") (middle signer date what more)))) ≡ Some (codes "claim")
claim_typed signer date what more apart =
    type_is (codes "claim") (middle signer date what more)
    (ap (λ (o : Option Data). option_or (option_or (option_or o None) None) None) apart.0)
    (ap (λ (o : Option Data). option_or (option_or (option_or o None) None) None) apart.1)

claim_form : (signer : List ℕ) (z : ℤ) (date : List ℕ) (what : What) → is_blobref signer ≡ true → IsDateText z date → MayBeSaid what
    → IsPayload (number_pair (codes "camliVersion") 1) (drop 1 (claim_pairs signer date what)) signer
claim_form signer z date what ref is may =
    let rest = middle signer date what (what_pairs what) in
    record {
      values = schema_values (codes "claim") rest (read_quoted 126 signer, (read_quoted 126 date, (read_quoted 126 (claim_type what), what_values what)));
      utf8 = schema_utf8 (codes "claim") rest (IsUtf8-are_ascii (codes "claim") refl)
          (text_pair_utf8 (codes "camliSigner") signer (drop 1 rest) (IsUtf8-are_ascii (codes "camliSigner") refl) (blobref_utf8 signer ref)
          (text_pair_utf8 (codes "claimDate") date (drop 2 rest) (IsUtf8-are_ascii (codes "claimDate") refl) (date_utf8 z date is)
          (text_pair_utf8 (codes "claimType") (claim_type what) (what_pairs what) (IsUtf8-are_ascii (codes "claimType") refl) (type_utf8 what) (what_utf8 what may))));
      names = ap (λ (o : Option Data). option_or (option_or (option_or (option_or (option_or o None) None) (Some (string signer))) None) None) (apart what).2;
      ref = ref;
    }

pub claim_said : (signer : List ℕ) (z : ℤ) (date : List ℕ) (what : What) (sig : List ℕ)
    → is_blobref signer ≡ true → date_in date ≡ Some z → IsDateText z date → MayBeSaid what → AreBytes 32 sig
    → length (signed (claim_payload signer date what) sig) ≤ longest_schema
    → Says (signed (claim_payload signer date what) sig)
    (Claim (record { signer = signer; payload = claim_payload signer date what; sig = sig }) z what)
unfolding claim_payload
claim_said signer z date what sig ref reads is may h fits =
    let p = number_pair (codes "camliVersion") 1 in
    let ps = drop 1 (claim_pairs signer date what) in
    let d = object (members_of (p ∷ ps)) in
    let fact : Signed = record { signer = signer; payload = payload_text (p ∷ ps); sig = sig } in
    let form = claim_form signer z date what ref is may in
    let dated : date_of d ≡ Some z =
    ap (option_and_then date_in) (text_is (p ∷ ps) (codes "claimDate") date
    (ap (λ (o : Option Data). option_or (option_or (option_or (option_or (option_or o None) (Some (string date))) None) None) None) (apart what).3))
    ∙ reads in
    signed_says p ps signer sig (codes "claim") (Claim fact z what) form h fits
    (claim_typed signer date what (what_pairs what ++ signature_pair (encode_lower sig) ∷ []) (apart_signed what (encode_lower sig)))
    (ap (option_and_then (λ found. claim_of found.0 found.1)) (signed_is p ps signer sig form h)
    ∙ ap (λ (o : Option (List ℕ)). if has_type_by (codes "claim") o then option_and_then (λ date. option_map (Claim fact date) (what_of d)) (date_of d) else None)
    (claim_typed signer date what (what_pairs what) (apart what))
    ∙ ap (option_and_then (λ date. option_map (Claim fact date) (what_of d))) dated
    ∙ ap (option_map (Claim fact z)) (what_is signer date what may))

pub claim_read : ClaimsAreRead
claim_read signer z date what sig ref range is may h fits = claim_said signer z date what sig ref (written_date_is_read z date range is) is may h fits
