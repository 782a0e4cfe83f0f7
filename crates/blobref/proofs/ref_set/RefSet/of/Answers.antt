-- A sort and a `dedup` keep each ref, and leave each once.
use Rattle.std.proofs.Common.{◌∙◌, ap}
use Rattle.std.specs.List.{list_any}
use Rattle.std.specs.Str.{bytes_eq}
use Rattle.blobref.proofs.Sets.{has_order, has_same}
use Rattle.blobref.proofs.ref_set.RefSet.of.Goals as goal

pub invariant_of-result : goal.invariant_of-result
invariant_of-result c =
    has_order c.into_vec-refs.result.items c.sort.new.self.items c.dedup.new.self.items c.dedup.ensures.filtered
    c.in_ok-sort.ensures.sorted

pub returns : goal.returns
returns c r =
    has_same c.into_vec-refs.result.items c.sort.new.self.items c.dedup.new.self.items c.dedup.ensures.filtered
    c.sort.ensures.permutation r
    ∙ ap (list_any (bytes_eq r)) c.into_vec-refs.ensures
