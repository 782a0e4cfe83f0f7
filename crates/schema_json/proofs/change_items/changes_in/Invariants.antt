use Rattle.std.proofs.Common.{◌≡◌, ◌++◌, drop}
use Rattle.std.specs.Option.{option_map}
use Rattle.serde_json.specs.View.{items_view}
use Rattle.schema_json.specs.Facts.{changes_in}
use Rattle.schema_json.proofs.change_items.changes_in.Given as goal

-- the changes so far and those of what is left are those of all
abbrev pub invariant-loop-value : goal.invariant-loop-value
invariant-loop-value l = option_map (λ rest. l.changes ++ rest) (changes_in (items_view (drop l.value-index l.items))) ≡ changes_in (items_view l.items)
