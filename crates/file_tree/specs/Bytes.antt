-- The bytes of a file: its parts in their order, from the referent's bytes, or zeros.
use Rattle.std.specs.Prelude.{ℕ, zero, suc, Bool, true, false, List, [], take, drop, replicate, flat_map, option_and_then, unwrap_or}
use Rattle.std.specs.List.{list_all}
use Rattle.std.specs.FinMap.{get, len}
use Rattle.edge_base.specs.Shelf.{Blobs}
use Rattle.schema_json.specs.Facts.{fact_of}
use Rattle.schema_fact.specs.declared.parts.Part.{Part}
use Rattle.schema_fact.specs.declared.parts.Origin.{Origin}
use Rattle.schema_fact.specs.declared.parts.Origin.TheVariants.{Zeros, Blob, Tree}
use Rattle.claim_model.specs.Facts.{Facts, facts_of}
use Rattle.claim_model.specs.Trees.{tree_parts}

-- what the blobs say
abbrev pub facts_in : Blobs → Facts
facts_in held = facts_of fact_of held

-- the parts of the file or bytes blob of a ref, and none where it is neither
abbrev pub parts_at : Blobs → List ℕ → List Part
parts_at held r = unwrap_or (option_and_then (λ bytes. tree_parts (fact_of bytes).kind) (get held r)) []

-- the bytes of an origin, where those of trees are these
abbrev pub origin_bytes : Blobs → (List ℕ → List ℕ) → ℕ → ℕ → Origin → List ℕ
origin_bytes held tree offset size Zeros = replicate size 0
origin_bytes held tree offset size (Blob r) = take size (drop offset (unwrap_or (get held r) []))
origin_bytes held tree offset size (Tree r) = take size (drop offset (tree r))

abbrev pub part_bytes : Blobs → (List ℕ → List ℕ) → Part → List ℕ
part_bytes held tree part = origin_bytes held tree part.offset part.size part.origin

-- the bytes of the tree at r, where trees within trees are looked at n deep
unfoldable pub bytes_within : Blobs → ℕ → List ℕ → List ℕ
bytes_within held zero r = []
bytes_within held (suc n) r = flat_map (part_bytes held (bytes_within held n)) (parts_at held r)

-- the bytes of the tree at r
abbrev pub bytes_of : Blobs → List ℕ → List ℕ
bytes_of held r = bytes_within held (suc (len (facts_in held))) r

-- whether a part that is a tree passes the test
abbrev pub tree_passes : (List ℕ → Bool) → Origin → Bool
tree_passes test Zeros = true
tree_passes test (Blob r) = true
tree_passes test (Tree r) = test r

-- whether trees nest at most n deep, the tree at r being the first
unfoldable pub nests_within : Blobs → ℕ → List ℕ → Bool
nests_within held zero r = false
nests_within held (suc n) r = list_all (λ (part : Part). tree_passes (nests_within held n) part.origin) (parts_at held r)
