use Rattle.std.proofs.Common.{◌≡◌, drop}
use mathlib.Core.List.{IsPrefix}
use Rattle.home_core.specs.Steps.{put_blobs}
use Rattle.home_core.proofs.storing.put_blobs.Given as goal

-- the blobs that are left, behind those that stand there, make the whole, and those that stood there stand in front
abbrev pub invariant-blobs : goal.invariant-blobs
invariant-blobs l =
    (put_blobs l.blobs l.fn.store.items ≡ put_blobs (drop l.blob-index l.blobs) l.store.items)
    × IsPrefix l.fn.store.items l.store.items
