use Rattle.fact_lines.proofs.Gathering.{has_refs_push}
use Rattle.fact_lines.proofs.blobs.add_blob.Goals as goal

pub returns-in_ok-push_fact-clause-seen : goal.returns-in_ok-push_fact-clause-seen
returns-in_ok-push_fact-clause-seen c = has_refs_push _ _ _ _ _ c.requires.seen c.in_ok-insert.ensures.updates
    c.in_ok-push_fact.ensures
