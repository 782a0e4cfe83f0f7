use Rattle.std.proofs.Common.{map, ◌∙◌, ap}
use Rattle.fact_lines.specs.Blobs.{with_blobs}
use Rattle.fact_lines.specs.Incoming.{kept_blob}
use Rattle.fact_lines.proofs.Taking.{taken_more}
use Rattle.fact_lines.proofs.incoming.feed.Goals as goal

pub returns : goal.returns
returns c = λ front taken.
    taken_more front c.args.incoming.now.scanner c.args.incoming.now.seen c.args.incoming.now.facts c.args.piece.now
    c.in_ok-found.found c.feed.new.self c.take_all.new.seen c.take_all.new.facts
    taken c.in_ok-found.ensures.tells c.in_ok-found.ensures.keeps c.in_ok-take_all.ensures.seen
    (c.in_ok-take_all.ensures.facts ∙ ap (λ l. with_blobs c.args.incoming.now.facts (map (kept_blob c.feed.new.self) l))
    c.as_slice.ensures)
