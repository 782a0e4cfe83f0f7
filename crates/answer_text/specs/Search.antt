-- The text of a search answer, of refs seen as their texts.
use Rattle.std.specs.Prelude.{ℕ, List, ◌++◌, codes, map}
use Rattle.std.specs.List.{join_with_byte}

-- the entry of one ref. A ref has no byte that JSON escapes
abbrev pub search_entry : List ℕ → List ℕ
search_entry r = codes "{\"blob\":\"" ++ r ++ codes "\"}"

-- the entries in the order of the refs, with a comma (44) between each two
abbrev pub search_text : List (List ℕ) → List ℕ
search_text refs = codes "{\"blobs\":[" ++ join_with_byte 44 (map search_entry refs) ++ codes "]}"
