use Rattle.std.proofs.Common.{option_map, ap, sym, ◌∙◌}
use Rattle.schema_fact.specs.declared.kinds.Fact.{Fact}
use Rattle.schema_json.specs.Facts.{fact_of}
use Rattle.claim_model.specs.Facts.{Facts, facts_of, passes}
use Rattle.claim_model.specs.Ready.{ready_fact}
use Rattle.share_gate.specs.Gates.{row_of}
use Rattle.share_gate.specs.Tables.{is_unread_claim}
use Rattle.share_gate.proofs.Blobs.{no_share}
use Rattle.share_gate.proofs.shares.row_at.Goals as goal

pub returns-then-not-may_be_share-clause-ok : goal.returns-then-not-may_be_share-clause-ok
returns-then-not-may_be_share-clause-ok g c = λ held is.
    let accepts = g.V.Verifier.accepts c.args.keys.now in
    let may_be = λ (f : Facts). passes (λ (fact : Fact). is_unread_claim fact.kind) (ready_fact f c.args.r.now) in
    ap (option_map (row_of (facts_of fact_of held) accepts))
    (no_share held c.args.r.now
    (ap may_be (sym (c.requires held is)) ∙ sym c.may_be_share.ensures ∙ c.if-not-may_be_share.true))
