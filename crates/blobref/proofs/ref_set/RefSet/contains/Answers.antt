-- A place tells whether a ref is there.
use Rattle.std.proofs.Common.{◌∙◌}
use Rattle.blobref.proofs.Sets.{is_there}
use Rattle.blobref.proofs.ref_set.RefSet.contains.Goals as goal

pub returns : goal.returns
returns c =
    c.is_some.ensures
    ∙ is_there c.args.r.now c.args.self.now c.place.result c.place.ensures.some c.place.ensures.none
