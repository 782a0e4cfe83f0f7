use Rattle.std.proofs.Common.{◌≡◌, ◌*◌, length, take}
use Rattle.hex.specs.Hex.{encode_lower}
use Rattle.blobref.proofs.digits.decode_lower.Given as goal

abbrev pub invariant-bytes : goal.invariant-bytes
invariant-bytes l = record {
  long : length l.bytes ≡ length l.fn.bytes;
  spelled : encode_lower (take l.i l.bytes) ≡ take (2 * l.i) l.digits;
}
