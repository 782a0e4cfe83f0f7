use Rattle.std.proofs.Common.{ap, sym, ◌∙◌}
use Rattle.std.specs.BTreeMap.Range.{entries_between}
use Rattle.std.specs.FinMap.{entries}
use Rattle.std.specs.declared.ops.Bound.TheVariants.{Unbounded}
use Rattle.blobref.specs.Blobref.{ref_cmp}
use Rattle.edge_base.proofs.Walks.{by_tree}
use Rattle.edge_base.proofs.blob_map.BlobMap.range_from.Goals as goal

pub returns-clause-between : goal.returns-clause-between
returns-clause-between c =
    c.range.ensures.between tt
    ∙ ap (entries_between ref_cmp c.args.start Unbounded) (sym (by_tree c.self.inside.blobs.entries c.range.ensures.ordered) ∙ ap entries c.self.view_is)
