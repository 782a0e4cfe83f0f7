use Rattle.std.proofs.Common.{ap, sym, ◌∙◌}
use Rattle.claim_model.specs.Facts.{Facts}
use Rattle.claim_model.specs.Ready.{ready_fact}
use Rattle.share_gate.proofs.Blobs.{links_ready}
use Rattle.share_gate.proofs.links.links_at.Goals as goal

pub returns-in_ok-links_of-in-Some-clause-ok : goal.returns-in_ok-links_of-in-Some-clause-ok
returns-in_ok-links_of-in-Some-clause-ok g c = λ held is.
    c.in_ok-links_of-in-Some.ensures
    ∙ links_ready held c.args.r.now c.in-Some.fact.now
    (ap (λ (f : Facts). ready_fact f c.args.r.now) (sym (c.requires held is)) ∙ sym c.in-Some.ensures)
