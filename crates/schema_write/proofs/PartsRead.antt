-- Written part lists, and the blobs that hold them, are read.
use Rattle.std.proofs.Common.{◌≡◌, ◌≤◌, ◌<◌, ◌^◌, ℕ, suc, Bool, true, false, ◌==◌, List, [], ◌∷◌, ◌++◌, codes, map, nat_le, cond, Option, None, Some, option_and_then, option_map, refl, ap, ◌∙◌, arith}
use Rattle.std.specs.Prelude.{if◌then◌else◌}
use Rattle.std.proofs.lemmas.Bool.Decides.{nat_tests}
use Rattle.std.proofs.lemmas.List.Elements.{recursion_from_All}
use Rattle.std.specs.List.{join_by, AllByRecursion}
use Rattle.json.proofs.Printed.Utf8.{IsUtf8-are_ascii}
use Rattle.serde_json.specs.Data.{Data, object}
use Rattle.serde_json.specs.Find.{get, as_array}
use Rattle.blobref.specs.Blobref.{blobref_in, is_blobref}
use Rattle.schema_fact.specs.Limits.{is_length, total_size, MeetsLimits, IsShortPart, greatest_length}
use Rattle.schema_fact.specs.declared.kinds.Kind.TheVariants.{File, Bytes}
use Rattle.schema_fact.specs.declared.parts.Part.{Part}
use Rattle.schema_fact.specs.declared.parts.Origin.{Origin}
use Rattle.schema_fact.specs.declared.parts.Origin.TheVariants.{Zeros, Blob, Tree}
use Rattle.json_laws.specs.Json.{whole_in}
use Rattle.schema_json.specs.Fields.{whole_at, whole_or_zero, text_or_empty}
use Rattle.schema_json.specs.Facts.{file_name_of}
use Rattle.schema_json.specs.Parts.{length_in, origin_of, origin_in, part_in, parts_of, part_list_of}
use Rattle.json_laws.specs.Written.{Pair, pair_text, members_of, items_of, read_within, ValuesReadWithin, ItemsReadWithin, PairsAreUtf8, ItemsAreUtf8}
use Rattle.json_laws.proofs.Object.{object_nests}
use Rattle.json_laws.proofs.Items.{list_nests}
use Rattle.json_laws.proofs.Found.{member_found}
use Rattle.json_laws.proofs.Leaves.{read_quoted, read_decimal}
use Rattle.json_laws.proofs.Utf8.{text_utf8, object_utf8, list_utf8}
use Rattle.schema_write.specs.Blobs.{text_pair, number_pair, object_line, origin_pairs, offset_pairs, part_pairs, part_item, parts_pair, bytes_pairs, file_pairs, bytes_blob, file_blob}
use Rattle.schema_write.specs.Laws.{HasRef, HaveRefs, FilesAreRead, TreesAreRead}
use Rattle.schema_write.proofs.Texts.{blobref_utf8, decimal_utf8}
use Rattle.schema_write.proofs.Objects.{no_key, line_read, schema_by, type_is, schema_values, schema_utf8, says}

-- ---- a part's text

pub small_size : (n : ℕ) → n ≤ greatest_length → n < 2 ^ 64
small_size n h = omega (arith, h)

offset_reads : (n offset : ℕ) → offset < 2 ^ 64 → ValuesReadWithin n (offset_pairs offset)
offset_reads n offset h = go (offset == 0)
  where
    go : (b : Bool) → ValuesReadWithin n (cond b [] (number_pair (codes "offset") offset ∷ []))
    go true = tt
    go false = (read_decimal n offset h, tt)

part_values : (n : ℕ) (part : Part) → IsShortPart part → ValuesReadWithin n (part_pairs part)
part_values n part short = go part.origin
  where
    rest : ValuesReadWithin n (number_pair (codes "size") part.size ∷ offset_pairs part.offset)
    rest = (read_decimal n part.size (small_size part.size short.0), offset_reads n part.offset (small_size part.offset short.1))

    go : (origin : Origin) → ValuesReadWithin n (origin_pairs origin ++ number_pair (codes "size") part.size ∷ offset_pairs part.offset)
    go Zeros = rest
    go (Blob r) = (read_quoted n r, rest)
    go (Tree r) = (read_quoted n r, rest)

-- parts within the limits, one by one
abbrev pub AreShort : List Part → Type 0
AreShort [] = Unit {0}
AreShort (part ∷ parts) = IsShortPart part × AreShort parts

items_read : (n : ℕ) (parts : List Part) → AreShort parts → ItemsReadWithin (suc n) (map part_item parts)
items_read n [] short = tt
items_read n (part ∷ parts) short = (object_nests n (part_pairs part) (part_values n part short.0), items_read n parts short.1)

list_reads : (parts : List Part) → AreShort parts → read_within 126 (parts_pair parts).text ≡ Some (parts_pair parts).value
list_reads parts short = list_nests 125 (map part_item parts) (items_read 124 parts short)

-- ---- a part is read as itself

short_in : (n : ℕ) → n ≤ greatest_length → length_in (Some n) ≡ Some n
short_in n h = let e : nat_le n greatest_length ≡ true = grind (arith, nat_tests, h) in ap (λ (b : Bool). cond b (Some n) None) e

-- what stands under the keys of a part
record Keys (ps : List Pair) (size offset : ℕ) (origin : Origin) : Type 0 where
  pub size_is : whole_at (codes "size") (object (members_of ps)) ≡ Some size
  pub offset_is : whole_or_zero (get (codes "offset") (object (members_of ps))) ≡ Some offset
  pub origin_is : origin_in (object (members_of ps)) ≡ Some origin

ref_is : (r : List ℕ) → is_blobref r ≡ true → blobref_in r ≡ Some r
ref_is r h = ap (λ (b : Bool). cond b (Some r) None) h

abbrev tail : Bool → ℕ → ℕ → List Pair
tail b size offset = number_pair (codes "size") size ∷ cond b [] (number_pair (codes "offset") offset ∷ [])

zero_of : (offset : ℕ) → (offset == 0) ≡ true → 0 ≡ offset
zero_of offset h = grind (arith, nat_tests, h)

keys_by : (b : Bool) (size offset : ℕ) (origin : Origin) → (offset == 0) ≡ b → HasRef origin → Keys (origin_pairs origin ++ tail b size offset) size offset origin
keys_by true size offset Zeros is h =
    let ps = tail true size offset in
    record {
      size_is = ap (option_and_then whole_in) (member_found ps (codes "size"));
      offset_is = ap whole_or_zero (member_found ps (codes "offset")) ∙ ap Some (zero_of offset is);
      origin_is = λ i. origin_of (member_found ps (codes "blobRef") i) (member_found ps (codes "bytesRef") i);
    }
keys_by false size offset Zeros is h =
    let ps = tail false size offset in
    record {
      size_is = ap (option_and_then whole_in) (member_found ps (codes "size"));
      offset_is = ap whole_or_zero (member_found ps (codes "offset"));
      origin_is = λ i. origin_of (member_found ps (codes "blobRef") i) (member_found ps (codes "bytesRef") i);
    }
keys_by true size offset (Blob r) is h =
    let ps = text_pair (codes "blobRef") r ∷ tail true size offset in
    let origin : origin_in (object (members_of ps)) ≡ option_map Blob (blobref_in r) = λ i. origin_of (member_found ps (codes "blobRef") i) (member_found ps (codes "bytesRef") i) in
    record {
      size_is = ap (option_and_then whole_in) (member_found ps (codes "size"));
      offset_is = ap whole_or_zero (member_found ps (codes "offset")) ∙ ap Some (zero_of offset is);
      origin_is = origin ∙ ap (option_map Blob) (ref_is r h);
    }
keys_by false size offset (Blob r) is h =
    let ps = text_pair (codes "blobRef") r ∷ tail false size offset in
    let origin : origin_in (object (members_of ps)) ≡ option_map Blob (blobref_in r) = λ i. origin_of (member_found ps (codes "blobRef") i) (member_found ps (codes "bytesRef") i) in
    record {
      size_is = ap (option_and_then whole_in) (member_found ps (codes "size"));
      offset_is = ap whole_or_zero (member_found ps (codes "offset"));
      origin_is = origin ∙ ap (option_map Blob) (ref_is r h);
    }
keys_by true size offset (Tree r) is h =
    let ps = text_pair (codes "bytesRef") r ∷ tail true size offset in
    let origin : origin_in (object (members_of ps)) ≡ option_map Tree (blobref_in r) = λ i. origin_of (member_found ps (codes "blobRef") i) (member_found ps (codes "bytesRef") i) in
    record {
      size_is = ap (option_and_then whole_in) (member_found ps (codes "size"));
      offset_is = ap whole_or_zero (member_found ps (codes "offset")) ∙ ap Some (zero_of offset is);
      origin_is = origin ∙ ap (option_map Tree) (ref_is r h);
    }
keys_by false size offset (Tree r) is h =
    let ps = text_pair (codes "bytesRef") r ∷ tail false size offset in
    let origin : origin_in (object (members_of ps)) ≡ option_map Tree (blobref_in r) = λ i. origin_of (member_found ps (codes "blobRef") i) (member_found ps (codes "bytesRef") i) in
    record {
      size_is = ap (option_and_then whole_in) (member_found ps (codes "size"));
      offset_is = ap whole_or_zero (member_found ps (codes "offset"));
      origin_is = origin ∙ ap (option_map Tree) (ref_is r h);
    }

part_is : (part : Part) → IsShortPart part → HasRef part.origin → part_in (object (members_of (part_pairs part))) ≡ Some part
part_is part short has =
    let keys = keys_by (part.offset == 0) part.size part.offset part.origin refl has in
    let d = object (members_of (part_pairs part)) in
    ap (λ (o : Option ℕ). option_and_then (λ size. option_and_then (λ offset. option_map (λ origin. record { size = size; offset = offset; origin = origin }) (origin_in d)) (length_in (whole_or_zero (get (codes "offset") d)))) o)
    (ap length_in keys.size_is ∙ short_in part.size short.0)
    ∙ ap (λ (o : Option ℕ). option_and_then (λ offset. option_map (λ origin. record { size = part.size; offset = offset; origin = origin }) (origin_in d)) o)
    (ap length_in keys.offset_is ∙ short_in part.offset short.1)
    ∙ ap (option_map (λ origin. record { size = part.size; offset = part.offset; origin = origin })) keys.origin_is

parts_are : (parts : List Part) → AreShort parts → HaveRefs parts → parts_of (items_of (map part_item parts)) ≡ Some parts
parts_are [] short have = refl
parts_are (part ∷ parts) short have =
    ap (option_and_then (λ p. option_map (λ ps. p ∷ ps) (parts_of (items_of (map part_item parts))))) (part_is part short.0 have.0)
    ∙ ap (option_map (λ ps. part ∷ ps)) (parts_are parts short.1 have.1)

-- the part list of an object with this pair
list_is : (parts : List Part) (d : Data) → AreShort parts → total_size parts ≤ greatest_length → HaveRefs parts → get (codes "parts") d ≡ Some (parts_pair parts).value → part_list_of d ≡ Some parts
list_is parts d short together have is =
    let all : option_and_then parts_of (option_and_then as_array (get (codes "parts") d)) ≡ Some parts = ap (λ (o : Option Data). option_and_then parts_of (option_and_then as_array o)) is ∙ parts_are parts short have in
    let fits : is_length (total_size parts) ≡ true = grind (arith, nat_tests, together) in
    ap (option_and_then (λ ps. if is_length (total_size ps) then Some ps else None)) all
    ∙ ap (λ (b : Bool). cond b (Some parts) None) fits

-- ---- UTF-8

offset_utf8 : (offset : ℕ) → offset < 2 ^ 64 → (b : Bool) → PairsAreUtf8 (cond b [] (number_pair (codes "offset") offset ∷ []))
offset_utf8 offset small true = tt
offset_utf8 offset small false = (IsUtf8-are_ascii (codes "offset") refl, decimal_utf8 offset small, tt)

part_utf8 : (part : Part) → IsShortPart part → HasRef part.origin → PairsAreUtf8 (part_pairs part)
part_utf8 part short has = go part.origin has
  where
    rest : PairsAreUtf8 (number_pair (codes "size") part.size ∷ offset_pairs part.offset)
    rest = (IsUtf8-are_ascii (codes "size") refl, decimal_utf8 part.size (small_size part.size short.0), offset_utf8 part.offset (small_size part.offset short.1) (part.offset == 0))

    go : (origin : Origin) → HasRef origin → PairsAreUtf8 (origin_pairs origin ++ number_pair (codes "size") part.size ∷ offset_pairs part.offset)
    go Zeros h = rest
    go (Blob r) h = (IsUtf8-are_ascii (codes "blobRef") refl, text_utf8 r (blobref_utf8 r h), rest)
    go (Tree r) h = (IsUtf8-are_ascii (codes "bytesRef") refl, text_utf8 r (blobref_utf8 r h), rest)

items_utf8 : (parts : List Part) → AreShort parts → HaveRefs parts → ItemsAreUtf8 (map part_item parts)
items_utf8 [] short have = tt
items_utf8 (part ∷ parts) short have = (object_utf8 (part_pairs part) (part_utf8 part short.0 have.0), items_utf8 parts short.1 have.1)

each_short : (parts : List Part) → AllByRecursion IsShortPart parts → AreShort parts
each_short [] h = tt
each_short (part ∷ parts) h = (h.0, each_short parts h.1)

pub are_short : (parts : List Part) → MeetsLimits parts → AreShort parts
are_short parts limits = each_short parts (recursion_from_All IsShortPart parts limits.each)

parts_values : (parts : List Part) → AreShort parts → ValuesReadWithin 126 (parts_pair parts ∷ [])
parts_values parts short = (list_reads parts short, tt)

parts_utf8 : (parts : List Part) → AreShort parts → HaveRefs parts → PairsAreUtf8 (parts_pair parts ∷ [])
parts_utf8 parts short have = (IsUtf8-are_ascii (codes "parts") refl, list_utf8 (map part_item parts) (items_utf8 parts short have), tt)

pub tree_read : TreesAreRead
unfolding bytes_blob
tree_read parts have limits fits =
    let short = are_short parts limits in
    let more = parts_pair parts ∷ [] in
    let pairs = bytes_pairs parts in
    let d = object (members_of pairs) in
    says (object_line pairs) (Bytes parts) (
    schema_by (object_line pairs) (codes "bytes") d (Bytes parts) (no_key ((join_by pair_text (codes ",") pairs ++ codes "}") ++ codes "\n")) fits
    (line_read pairs (schema_values (codes "bytes") more (parts_values parts short))
    (schema_utf8 (codes "bytes") more (IsUtf8-are_ascii (codes "bytes") refl) (parts_utf8 parts short have)))
    (type_is (codes "bytes") more refl refl)
    (ap (option_map Bytes) (list_is parts d short limits.together have (member_found pairs (codes "parts")))))

pub file_read : FilesAreRead
unfolding file_blob
file_read name parts utf8 have limits fits =
    let short = are_short parts limits in
    let more = text_pair (codes "fileName") name ∷ parts_pair parts ∷ [] in
    let pairs = file_pairs name parts in
    let d = object (members_of pairs) in
    let named : file_name_of d ≡ Some name = ap text_or_empty (member_found pairs (codes "fileName")) in
    says (object_line pairs) (File name parts) (
    schema_by (object_line pairs) (codes "file") d (File name parts) (no_key ((join_by pair_text (codes ",") pairs ++ codes "}") ++ codes "\n")) fits
    (line_read pairs (schema_values (codes "file") more (read_quoted 126 name, parts_values parts short))
    (schema_utf8 (codes "file") more (IsUtf8-are_ascii (codes "file") refl) (IsUtf8-are_ascii (codes "fileName") refl, text_utf8 name utf8, parts_utf8 parts short have)))
    (type_is (codes "file") more refl refl)
    (ap (option_and_then (λ n. option_map (File n) (part_list_of d))) named ∙ ap (option_map (File name)) (list_is parts d short limits.together have (member_found pairs (codes "parts")))))
