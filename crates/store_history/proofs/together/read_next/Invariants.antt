use Rattle.std.proofs.Common.{◌≡◌, ◌+◌, ◌≤◌, length, Ok}
use Rattle.pack_store.specs.Reading.{StaysStill}
use Rattle.store_history.specs.Together.{AllFrom, StandsAt, first_in}
use Rattle.store_history.proofs.together.read_next.Given as goal

abbrev pub invariant-numbers : goal.invariant-numbers
invariant-numbers g l = record {
  first : first_in (Ok l.blobs) ≡ first_in (Ok l.fn.blobs);
  stand : AllFrom (StandsAt g.D.Disk l.fn.store) l.fn.number l.blobs;
  some : 1 ≤ length l.blobs;
  long : l.next ≡ l.fn.number + length l.blobs;
  stays : StaysStill g.D.Disk l.fn.store l.store;
  later : g.D.Disk.faults l.fn.store.disk ≤ g.D.Disk.faults l.store.disk;
}
