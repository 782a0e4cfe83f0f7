use Rattle.std.proofs.Common.{◌∙◌, ap, length, replicate, List, ℕ}
use Rattle.histories.specs.Stores.{Blob}
use Rattle.core_home.specs.Keeping.{from_the_start}
use Rattle.core_home.proofs.Starting.{starts_kept, starts_seen}
use Rattle.core_home.proofs.pass.CorePass.over.Goals as goal

pub invariant_of-result : goal.invariant_of-result
invariant_of-result g c = record {
  kept = starts_kept c.args.core.state c.in-Ok.puts.items c.in-Ok-starts.inserts.items
      (c.in-Ok.ensures ∙ ap (λ (bs : List Blob). replicate (length bs) 0) c.blobs.ensures)
      (c.in-Ok-starts.ensures ∙ ap (λ (ns : List ℕ). replicate (length ns) from_the_start) c.indexed.ensures) c.requires c.each_is_sound.ensures;
}

pub returns-clause-sight : goal.returns-clause-sight
returns-clause-sight g c =
    starts_seen c.args.core.state c.in-Ok.puts.items c.in-Ok-starts.inserts.items
    (c.in-Ok.ensures ∙ ap (λ (bs : List Blob). replicate (length bs) 0) c.blobs.ensures)
    (c.in-Ok-starts.ensures ∙ ap (λ (ns : List ℕ). replicate (length ns) from_the_start) c.indexed.ensures) (g.V.Verifier.accepts c.args.core.keys)
