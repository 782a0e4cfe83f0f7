use Rattle.std.proofs.Common.{◌≡◌, ◌++◌, drop}
use Rattle.std.specs.List.{flat_map}
use Rattle.answer_text.proofs.Joined.{with_comma}
use Rattle.answer_text.proofs.entries.push_entries.Given as goal

-- what is written, and what is left to write
abbrev pub invariant-loop-item : goal.invariant-loop-item
invariant-loop-item g l = l.text.items ++ flat_map (with_comma g.T.Entry.entry) (drop l.item-index l.others) ≡ l.initial.text.items ++ flat_map (with_comma g.T.Entry.entry) l.others
