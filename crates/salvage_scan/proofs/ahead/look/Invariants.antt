use Rattle.std.proofs.Common.{◌≡◌, ◌≤◌, length}
use Rattle.sha_lanes.specs.Message.{texts}
use Rattle.salvage_scan.proofs.Looked.{AreRead}
use Rattle.salvage_scan.proofs.ahead.look.Given as goal

abbrev pub invariant-headers : goal.invariant-headers
invariant-headers l = record {
  counted : l.count ≡ l.i;
  within : l.place ≤ length l.bytes;
  blobs_long : length l.blobs ≡ 64;
  places_long : length l.places ≡ 64;
  lens_long : length l.lens ≡ 64;
  sizes_long : length l.sizes ≡ 64;
  said_long : length l.said ≡ 64;
  are_read : AreRead l.bytes (texts l.blobs) l.places l.lens l.sizes l.said l.i;
}
