use Rattle.std.proofs.Common.{◌≡◌, take}
use Rattle.std.specs.List.{flat_map}
use Rattle.blob_routes.specs.Stats.{right_ref}
use Rattle.blob_routes.proofs.stats.all_refs.Given as goal

abbrev pub invariant-loop-place : goal.invariant-loop-place
invariant-loop-place l = l.refs ≡ flat_map right_ref (take l.place-index l.places)
