use Rattle.std.proofs.Common.{ap, sym, ◌∙◌}
use Rattle.std.specs.FinMap as finite
use Rattle.std.specs.Option.{is_some}
use Rattle.edge_base.proofs.Racks.{get_ref, one_taken}
use Rattle.edge_base.proofs.blob_map.BlobMap.remove.Goals as goal

pub returns-clause-there : goal.returns-clause-there
returns-clause-there c =
    c.is_some.ensures ∙ ap is_some (c.remove.ensures.value ∙ sym (get_ref c.self.inside.blobs.entries c.args.r.now) ∙ ap (λ m. finite.get m c.args.r.now) c.self.view_is)

pub returns-clause-removed : goal.returns-clause-removed
returns-clause-removed c =
    one_taken c.self.inside.blobs.entries c.remove.new.self.entries c.args.r.now c.remove.ensures.updates.0
    ∙ ap (λ m. finite.remove m c.args.r.now) c.self.view_is
