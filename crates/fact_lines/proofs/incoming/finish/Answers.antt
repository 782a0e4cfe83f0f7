use Rattle.std.proofs.Common.{map, ◌∙◌, ap}
use Rattle.fact_lines.specs.Blobs.{with_blobs}
use Rattle.fact_lines.specs.Incoming.{kept_blob}
use Rattle.fact_lines.proofs.Taking.{taken_all}
use Rattle.fact_lines.proofs.incoming.finish.Goals as goal

pub returns-clause-facts : goal.returns-clause-facts
returns-clause-facts c = λ front taken.
    taken_all front c.args.incoming.scanner c.finish.new.self c.args.incoming.seen c.args.incoming.facts
    c.in_ok-found.found c.take_all.new.facts taken
    c.in_ok-found.ensures.ends.0 c.in_ok-found.ensures.keeps
    (c.in_ok-take_all.ensures.facts ∙ ap (λ l. with_blobs c.args.incoming.facts (map (kept_blob c.finish.new.self) l))
    c.as_slice.ensures)
