use Rattle.std.proofs.Common.{◌≡◌, drop}
use Rattle.histories.specs.Stores.{bytes_of}
use Rattle.core_home.proofs.reading.size_of.Given as goal

-- what stands in front has another ref
abbrev pub invariant-blobs : goal.invariant-blobs
invariant-blobs l = bytes_of l.r l.blobs ≡ bytes_of l.r (drop l.blob-index l.blobs)
