use Rattle.std.proofs.Common.{◌≡◌, ◌≤◌, ◌-◌, length}
use Rattle.http_wire.specs.Bodies.{Moves}
use Rattle.http_exchange.proofs.gathering.gather_on.Given as goal

abbrev pub invariant-reads : goal.invariant-reads
invariant-reads g l =
    let left = g.S.Source.left in
    let faults = g.S.Source.faults in
    record {
      moved : Moves (left l.fn.source)
          (left l.source) l.fn.wire.flow l.wire.flow l.fn.wire.body l.wire.body l.bytes.items;
      head : l.wire.head ≡ l.fn.wire.head;
      begun : l.wire.begun ≡ l.fn.wire.begun;
      later : faults l.fn.source ≤ faults l.source;
      few : length l.bytes.items ≤ 1048576;
      room : length l.buf ≡ 16384;
    }

abbrev pub decreases-reads : goal.decreases-reads
decreases-reads g l = 1048576 - length l.bytes.items
