-- The places of a tree are those of its parts.
use Rattle.std.proofs.Common.{List, length, ap, arith}
use Rattle.schema_fact.specs.declared.parts.Part.{Part}
use Rattle.schema_fact.specs.Dependencies.{part_refs}
use Rattle.claim_index.proofs.PartTicks.{tree_needs}
use Rattle.claim_index.proofs.soundness.parts_fit.Goals as goal

pub returns-in-Some-clause-ticks : goal.returns-in-Some-clause-ticks
returns-in-Some-clause-ticks g c =
    let same = tree_needs c.args.fact.now.kind c.in-Some.parts.now c.in-Some.ensures.value in
    let slice = ap (λ (ps : List Part). length (part_refs ps)) c.as_slice.ensures in
    omega (arith, same, slice, c.all_fit.ensures.ticks)
