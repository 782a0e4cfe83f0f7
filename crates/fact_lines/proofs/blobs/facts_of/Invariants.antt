use Rattle.std.proofs.Common.{◌≡◌, [], map, drop}
use Rattle.fact_lines.specs.Blobs.{named, with_blobs, HasRefsOf}
use Rattle.fact_lines.proofs.blobs.facts_of.Given as goal

-- the facts so far, with those of the blobs that are left, are those of all
abbrev pub invariant-loop-blob : goal.invariant-loop-blob
invariant-loop-blob l = record {
  facts : with_blobs l.facts (map named (drop l.blob-index l.blobs)) ≡ with_blobs [] (map named l.blobs);
  seen : HasRefsOf l.seen l.facts;
}
