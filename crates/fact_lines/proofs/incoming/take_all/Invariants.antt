use Rattle.std.proofs.Common.{◌≡◌, map, drop}
use Rattle.fact_lines.specs.Blobs.{with_blobs, HasRefsOf}
use Rattle.fact_lines.specs.Incoming.{kept_blob}
use Rattle.fact_lines.proofs.incoming.take_all.Given as goal

-- the facts so far, with those of the places that are left, are those of all
abbrev pub invariant-loop-place : goal.invariant-loop-place
invariant-loop-place l = record {
  facts : with_blobs l.facts (map (kept_blob l.scanner) (drop l.place-index l.found))
      ≡ with_blobs l.fn.facts (map (kept_blob l.scanner) l.found);
  seen : HasRefsOf l.seen l.facts;
}
