-- Parts behind others of the same file.
use Rattle.std.specs.Prelude.{ℕ, Bool, List, Option, None, Some, option_and_then, if◌then◌else◌}
use Rattle.std.specs.List.{list_any}
use Rattle.std.specs.Str.{bytes_eq}
use Rattle.schema_fact.specs.declared.parts.Part.{Part}
use Rattle.schema_fact.specs.Dependencies.{origin_ref}
use Rattle.claim_model.specs.Facts.{passes}

-- whether the part takes its bytes from r
abbrev pub is_from : List ℕ → Part → Bool
is_from r part = passes (bytes_eq r) (origin_ref part.origin)

-- the ref from which the part takes its bytes, where none of those before it takes bytes from it
abbrev pub new_ref : List Part → Part → Option (List ℕ)
new_ref before part = option_and_then (λ r. if list_any (is_from r) before then None else Some r) (origin_ref part.origin)
