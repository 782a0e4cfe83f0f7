use Rattle.std.proofs.Common.{◌≡◌, drop}
use Rattle.serde_json.specs.View.{view}
use Rattle.query_read.specs.Faults.{names, has_any}
use Rattle.query_read.proofs.objects.has_any.Given as goal

abbrev pub invariant-loop-key : goal.invariant-loop-key
invariant-loop-key l = has_any (names l.keys) (view l.value) ≡ has_any (names (drop l.key-index l.keys)) (view l.value)
