use Rattle.std.proofs.Common.{◌≡◌, map, take}
use Rattle.index_look.proofs.values.copied.Given as goal

abbrev pub invariant-loop-text : goal.invariant-loop-text
invariant-loop-text l = l.texts ≡ map (λ t. t.now) (take l.text-index l.found)
