use Rattle.std.proofs.Common.{◌≡◌, ◌≤◌, ◌-◌, length}
use Rattle.http_wire.specs.Bodies.{Moves}
use Rattle.http_wire.specs.Wires.{to_come}
use Rattle.peer_http.specs.Replies.{GoesToEnd}
use Rattle.peer_http.proofs.gathering.gather.Given as goal

abbrev pub invariant-reads : goal.invariant-reads
invariant-reads g l =
    let left = g.S.Source.left in
    let faults = g.S.Source.faults in
    record {
      moved : Moves (left l.fn.source) (left l.source) l.fn.wire.flow l.wire.flow l.fn.wire.body l.wire.body l.bytes.items;
      begun : l.wire.begun ≡ l.fn.wire.begun;
      later : faults l.fn.source ≤ faults l.source;
      last : GoesToEnd (to_come l.wire (left l.source)) l.fn.wire.body l.wire.body;
      few : length l.bytes.items ≤ l.most;
      room : length l.buf ≡ length l.fn.buf;
    }

abbrev pub decreases-reads : goal.decreases-reads
decreases-reads g l = l.most - length l.bytes.items
