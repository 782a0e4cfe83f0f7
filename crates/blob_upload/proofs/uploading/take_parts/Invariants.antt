use Rattle.std.proofs.Common.{◌≡◌, ◌<◌, ◌≤◌, ◌-◌, ℕ, List, length}
use Rattle.multipart_read.specs.Limits.{most_bytes}
use Rattle.multipart_read.specs.Reader.{fresh}
use Rattle.blob_upload.proofs.Ending.{Uploading}
use Rattle.blob_upload.proofs.uploading.take_parts.Given as goal

abbrev pub invariant-pieces : goal.invariant-pieces
invariant-pieces g l = record {
  own : g.H.Home.belongs l.service.home.now l.pass;
  so_far : (boundary : List ℕ) → l.fn.parts ≡ fresh boundary
      → Uploading boundary (g.S.Source.left l.fn.source) (g.S.Source.left l.source) l.fn.wire l.wire
      (g.H.Home.sight l.fn.pass) (g.H.Home.sight l.pass) l.fn.kept l.kept l.reading;
  counted : l.reading.parts.fed ≡ l.reading.taken;
  head : l.wire.head ≡ l.fn.wire.head;
  begun : l.wire.begun ≡ l.fn.wire.begun;
  later : g.S.Source.faults l.fn.source ≤ g.S.Source.faults l.source;
  some : 0 < length l.space;
  room : length l.space ≤ 65536;
}

abbrev pub decreases-pieces : goal.decreases-pieces
decreases-pieces g l = most_bytes - l.reading.taken
