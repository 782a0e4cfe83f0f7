-- The refs that a blob links to: of its parts, its entries or its members.
use Rattle.std.specs.Prelude.{ℕ, List, [], ◌∷◌}
use Rattle.schema_fact.specs.Dependencies.{part_refs}
use Rattle.schema_fact.specs.declared.kinds.Kind.{Kind}
use Rattle.schema_fact.specs.declared.kinds.Kind.TheVariants.{Plain, Key, File, Bytes, Directory, StaticSet}
use Rattle.schema_fact.specs.declared.kinds.Kind.TheVariants.{Permanode, Claim, Unread}
use Rattle.schema_json.specs.Facts.{fact_of}

abbrev pub links_of : Kind → List (List ℕ)
links_of Plain = []
links_of (Key name) = []
links_of (File name parts) = part_refs parts
links_of (Bytes parts) = part_refs parts
links_of (Directory name listing) = listing ∷ []
links_of (StaticSet members) = members
links_of (Permanode signed) = []
links_of (Claim signed date what) = []
links_of (Unread type) = []

-- those of the blob of these bytes
abbrev pub links_in : List ℕ → List (List ℕ)
links_in bytes = links_of (fact_of bytes).kind
