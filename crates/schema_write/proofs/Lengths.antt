-- How long written files are: with 4,096 parts and a name of 4,096 bytes they are short enough.
use Rattle.std.proofs.Common.{◌≡◌, ◌≤◌, ◌+◌, ◌*◌, ◌==◌, ℕ, Bool, true, false, cond, List, [], ◌∷◌, ◌++◌, codes, length, decimal, map, flat_map, inl, inr, refl, sym, ap, ◌∙◌, arith, length-append}
use Rattle.std.proofs.lemmas.Fmt.{length-decimal-le}
use Rattle.std.proofs.lemmas.List.Concat.{flat_map-append}
use Rattle.std.specs.Fmt.{digits}
use Rattle.json.specs.Print.{quoted, escape, escape_byte}
use Rattle.blobref.specs.Blobref.{is_blobref}
use Rattle.blobref.proofs.Spelled.{blobref_parts, blobref_short}
use Rattle.json_laws.specs.Written.{Pair, pair_text, object_text, list_text}
use Rattle.json_laws.proofs.Signature.{digits_plain}
use Rattle.schema_fact.specs.Limits.{IsShortPart, greatest_length, MeetsLimits}
use Rattle.schema_fact.specs.declared.parts.Part.{Part}
use Rattle.schema_fact.specs.declared.parts.Origin.{Origin}
use Rattle.schema_fact.specs.declared.parts.Origin.TheVariants.{Zeros, Blob, Tree}
use Rattle.schema_write.specs.Blobs.{text_pair, number_pair, origin_pairs, offset_pairs, part_pairs, part_item, parts_pair, bytes_pairs, file_pairs, file_blob, bytes_blob}
use Rattle.schema_write.specs.Laws.{HasRef, HaveRefs, longest_schema}
use Rattle.schema_write.proofs.PartsRead.{AreShort, are_short, small_size}
use Rattle.schema_write.proofs.Texts.{quoted_short}

-- ---- objects

-- the pairs, with a comma each
abbrev pairs_long : List Pair → ℕ
pairs_long [] = 0
pairs_long (p ∷ ps) = (length (pair_text p) + 1) + pairs_long ps

abbrev later_text : List Pair → List ℕ
later_text ps = flat_map (λ q. codes "," ++ pair_text q) ps

later_long : (ps : List Pair) → length (later_text ps) ≡ pairs_long ps
later_long [] = refl
later_long (p ∷ ps) = omega (arith, later_long ps, length-append (44 ∷ pair_text p) (later_text ps))

object_long : (ps : List Pair) → length (object_text ps) ≤ 2 + pairs_long ps
object_long [] = omega arith
object_long (p ∷ ps) =
    omega (arith, later_long ps, length-append (123 ∷ (pair_text p ++ later_text ps)) (125 ∷ []), length-append (pair_text p) (later_text ps))

pair_long : (p : Pair) → length (pair_text p) ≡ length (quoted p.key) + (1 + length p.text)
pair_long p = omega (arith, length-append (quoted p.key ++ 58 ∷ []) p.text, length-append (quoted p.key) (58 ∷ []))

-- ---- parts

key_long : (length (quoted (codes "size")) ≡ 6) × (length (quoted (codes "offset")) ≡ 8) × (length (quoted (codes "blobRef")) ≡ 9) × (length (quoted (codes "bytesRef")) ≡ 10)
unfolding escape_byte
key_long = (refl, refl, refl, refl)

number_long : (n : ℕ) → n ≤ greatest_length → length (decimal n) ≤ 15
number_long n h = length-decimal-le 15 n (omega arith) (omega (arith, h)) (small_size n h)

ref_plain : (r : List ℕ) → is_blobref r ≡ true → escape r ≡ r
unfolding escape_byte
ref_plain r h =
    let parts = blobref_parts r h in
    let name : escape parts.name ≡ parts.name = elim parts.form [ inl f ↦ ap escape f.0 ∙ sym f.0 | inr f ↦ ap escape f.0 ∙ sym f.0 ] in
    ap escape parts.whole ∙ flat_map-append escape_byte parts.name parts.digits ∙ (λ i. name i ++ digits_plain parts.digits parts.lower i) ∙ sym parts.whole

ref_long : (r : List ℕ) → is_blobref r ≡ true → length (quoted r) ≤ 65
ref_long r h =
    let plain : length (escape r) ≡ length r = ap length (ref_plain r h) in
    omega (arith, blobref_short r h, plain, length-append (escape r) (34 ∷ []))

offset_long : (offset : ℕ) → offset ≤ greatest_length → pairs_long (offset_pairs offset) ≤ 25
offset_long offset h = by (offset == 0)
  where
    by : (b : Bool) → pairs_long (cond b [] (number_pair (codes "offset") offset ∷ [])) ≤ 25
    by true = omega arith
    by false = omega (arith, pair_long (number_pair (codes "offset") offset), key_long.1, number_long offset h)

part_long : (part : Part) → IsShortPart part → HasRef part.origin → length (object_text (part_pairs part)) ≤ 130
part_long part short has = by part.origin has
  where
    by : (origin : Origin) → HasRef origin → length (object_text (origin_pairs origin ++ number_pair (codes "size") part.size ∷ offset_pairs part.offset)) ≤ 130
    by Zeros h =
        omega (arith, object_long (number_pair (codes "size") part.size ∷ offset_pairs part.offset), pair_long (number_pair (codes "size") part.size), key_long.0, number_long part.size short.0, offset_long part.offset short.1)
    by (Blob r) h =
        omega (arith, object_long (text_pair (codes "blobRef") r ∷ number_pair (codes "size") part.size ∷ offset_pairs part.offset), pair_long (text_pair (codes "blobRef") r), key_long.2, ref_long r h, pair_long (number_pair (codes "size") part.size), key_long.0, number_long part.size short.0, offset_long part.offset short.1)
    by (Tree r) h =
        omega (arith, object_long (text_pair (codes "bytesRef") r ∷ number_pair (codes "size") part.size ∷ offset_pairs part.offset), pair_long (text_pair (codes "bytesRef") r), key_long.3, ref_long r h, pair_long (number_pair (codes "size") part.size), key_long.0, number_long part.size short.0, offset_long part.offset short.1)

abbrev later_items : List Part → List ℕ
later_items parts = flat_map (λ i. codes "," ++ i.text) (map part_item parts)

items_long : (parts : List Part) → AreShort parts → HaveRefs parts → length (later_items parts) ≤ 131 * length parts
items_long [] short have = omega arith
items_long (part ∷ parts) short have =
    omega (arith, items_long parts short.1 have.1, part_long part short.0 have.0, length-append (44 ∷ object_text (part_pairs part)) (later_items parts))

list_long : (parts : List Part) → AreShort parts → HaveRefs parts → length (list_text (map part_item parts)) ≤ 2 + 131 * length parts
list_long [] short have = omega arith
list_long (part ∷ parts) short have =
    omega (arith, items_long parts short.1 have.1, part_long part short.0 have.0, length-append (91 ∷ (object_text (part_pairs part) ++ later_items parts)) (93 ∷ []), length-append (object_text (part_pairs part)) (later_items parts))

-- ---- files

head_long : (length (pair_text (number_pair (codes "camliVersion") 1)) ≡ 16) × (length (pair_text (text_pair (codes "camliType") (codes "file"))) ≡ 18) × (length (pair_text (text_pair (codes "camliType") (codes "bytes"))) ≡ 19) × (length (quoted (codes "fileName")) ≡ 10) × (length (quoted (codes "parts")) ≡ 7)
unfolding escape_byte digits
head_long = (refl, refl, refl, refl, refl)

pub file_short : (name : List ℕ) (parts : List Part) → HaveRefs parts → MeetsLimits parts → length name ≤ 4096 → length parts ≤ 4096 → length (file_blob name parts) ≤ longest_schema
unfolding file_blob
file_short name parts have limits few_bytes few_parts =
    let pairs = file_pairs name parts in
    omega (
      arith,
      length-append (object_text pairs) (codes "\n"),
      object_long pairs,
      head_long.0,
      head_long.1,
      pair_long (text_pair (codes "fileName") name),
      head_long.3,
      quoted_short name,
      pair_long (parts_pair parts),
      head_long.4,
      list_long parts (are_short parts limits) have,
      few_bytes,
      few_parts,
    )

pub bytes_short : (parts : List Part) → HaveRefs parts → MeetsLimits parts → length parts ≤ 4096 → length (bytes_blob parts) ≤ longest_schema
unfolding bytes_blob
bytes_short parts have limits few_parts =
    let pairs = bytes_pairs parts in
    omega (arith, length-append (object_text pairs) (codes "\n"), object_long pairs, head_long.0, head_long.2, pair_long (parts_pair parts), head_long.4, list_long parts (are_short parts limits) have, few_parts)
