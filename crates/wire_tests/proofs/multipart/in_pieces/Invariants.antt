use Rattle.std.proofs.Common.{◌≡◌, ◌≤◌, ◌+◌, ◌-◌, length}
use Rattle.wire_tests.proofs.multipart.in_pieces.Given as goal

abbrev pub invariant-pieces : goal.invariant-pieces
invariant-pieces l = record {
  within : l.at ≤ length l.body;
  fed : l.parts.fed ≡ l.fn.parts.fed + l.at;
}

abbrev pub decreases-pieces : goal.decreases-pieces
decreases-pieces l = length l.body - l.at
