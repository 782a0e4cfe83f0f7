use Rattle.std.proofs.Common.{◌≡◌, ◌++◌, drop}
use Rattle.std.specs.Option.{option_map}
use Rattle.serde_json.specs.View.{items_view}
use Rattle.schema_json.specs.Fields.{refs_of}
use Rattle.schema_json.proofs.fields.refs_of.Given as goal

-- the refs so far and those of what is left are those of all
abbrev pub invariant-loop-value : goal.invariant-loop-value
invariant-loop-value l = option_map (λ rest. l.refs ++ rest) (refs_of (items_view (drop l.value-index l.items))) ≡ refs_of (items_view l.items)
