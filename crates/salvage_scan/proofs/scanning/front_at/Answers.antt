use Rattle.std.proofs.Common.{◌≡◌, ◌+◌, ap, arith}
use Rattle.pack_format.specs.Reading.{header_at}
use Rattle.salvage_scan.specs.Pieces.{wanted}
use Rattle.salvage_scan.proofs.Open.{wanted-most}
use Rattle.salvage_scan.proofs.scanning.front_at.Goals as goal

pub overflow_add-len-else-holds : goal.overflow_add-len-else-holds
overflow_add-len-else-holds c =
    let wants : c.in-Blob.len + c.in-Blob.size ≡ wanted (header_at c.args.bytes.now) = ap wanted c.in-Blob.ensures in
    omega (arith, wants, wanted-most c.args.bytes.now)

pub overflow_add-len-else-holds-2 : goal.overflow_add-len-else-holds-2
overflow_add-len-else-holds-2 c =
    let wants : c.in-Gone.len + c.in-Gone.size ≡ wanted (header_at c.args.bytes.now) = ap wanted c.in-Gone.ensures in
    omega (arith, wants, wanted-most c.args.bytes.now)
