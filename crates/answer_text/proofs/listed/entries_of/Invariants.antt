use Rattle.std.proofs.Common.{◌≡◌, ◌++◌, drop}
use Rattle.std.specs.Option.{option_map}
use Rattle.serde_json.specs.View.{items_view}
use Rattle.answer_text.specs.Reading.{entries_of}
use Rattle.answer_text.proofs.listed.entries_of.Given as goal

-- the blobs so far and those of what is left are those of all
abbrev pub invariant-loop-value : goal.invariant-loop-value
invariant-loop-value l = option_map (λ rest. l.entries ++ rest) (entries_of (items_view (drop l.value-index l.items))) ≡ entries_of (items_view l.items)
