use Rattle.std.proofs.Common.{◌≡◌, ◌++◌, drop}
use Rattle.std.specs.Option.{option_map}
use Rattle.serde_json.specs.View.{items_view}
use Rattle.schema_json.specs.Parts.{parts_of}
use Rattle.schema_json.proofs.part_list.parts_of.Given as goal

-- the parts so far and those of what is left are those of all
abbrev pub invariant-loop-value : goal.invariant-loop-value
invariant-loop-value l = option_map (λ rest. l.parts ++ rest) (parts_of (items_view (drop l.value-index l.items))) ≡ parts_of (items_view l.items)
