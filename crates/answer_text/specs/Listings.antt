-- The texts of answers that list blobs with their sizes.
use Rattle.std.specs.Prelude.{ℕ, List, ◌++◌, codes, map, Option, Some, None}
use Rattle.std.specs.List.{join_with_byte}
use Rattle.answer_text.specs.declared.refusal.Refusal.{Refusal}
use Rattle.answer_text.specs.Refusals.{fields_of, number_detail, ref_detail, ref_field}

-- one blob: its ref and its size
abbrev pub blob_entry : List ℕ × ℕ → List ℕ
blob_entry blob = codes "{" ++ ref_field (codes "blobRef") blob.0 ++ number_detail (codes "size") blob.1 ++ codes "}"

-- the entries in the order of the blobs, with a comma (44) between each two
abbrev pub blob_entries : List (List ℕ × ℕ) → List ℕ
blob_entries blobs = join_with_byte 44 (map blob_entry blobs)

-- those of the refs asked that stand
abbrev pub stat_text : List (List ℕ × ℕ) → List ℕ
stat_text found = codes "{\"stat\":[" ++ blob_entries found ++ codes "]}"

-- what ends a page: the ref after which to go on, where further refs follow
abbrev pub page_end : Option (List ℕ) → List ℕ
page_end None = codes "]}"
page_end (Some r) = codes "]" ++ ref_detail (codes "continueAfter") r ++ codes "}"

abbrev pub page_text : List (List ℕ × ℕ) → Option (List ℕ) → List ℕ
page_text page more = codes "{\"blobs\":[" ++ blob_entries page ++ page_end more

-- what ends the list of what an upload kept: why it was refused, where it was
abbrev pub upload_end : Option Refusal → List ℕ
upload_end None = codes "]}"
upload_end (Some refusal) = codes "]," ++ fields_of refusal ++ codes "}"

abbrev pub upload_text : List (List ℕ × ℕ) → Option Refusal → List ℕ
upload_text kept refusal = codes "{\"received\":[" ++ blob_entries kept ++ upload_end refusal
