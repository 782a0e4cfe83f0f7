use Rattle.std.proofs.Common.{List, length, ap, sym, ◌∙◌}
use Rattle.std.specs.FinMap.{entries}
use Rattle.edge_base.specs.Shelf.{Blob, Blobs}
use Rattle.edge_base.proofs.Walks.{by_tree}
use Rattle.edge_base.proofs.blob_map.BlobMap.len.Goals as goal

pub returns-clause-is : goal.returns-clause-is
returns-clause-is c =
    c.len.ensures.len ∙ ap (λ (l : List Blob). length l) (sym (by_tree c.self.inside.blobs.entries c.len.ensures.ordered))
    ∙ ap (λ (m : Blobs). length (entries m)) c.self.view_is
