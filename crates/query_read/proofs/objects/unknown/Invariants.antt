use Rattle.std.proofs.Common.{◌≡◌}
use Rattle.serde_json.specs.View.{members_view}
use Rattle.query_read.specs.Faults.{names, unknown}
use Rattle.query_read.proofs.objects.unknown.Given as goal

abbrev pub invariant-loop-key : goal.invariant-loop-key
invariant-loop-key l = unknown (names l.keys) (members_view l.fn.members.entries) ≡ unknown (names l.keys) (members_view l.key-iterator)
