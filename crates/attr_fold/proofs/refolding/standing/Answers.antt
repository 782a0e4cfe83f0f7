use Rattle.attr_fold.proofs.Standing.{stands_is}
use Rattle.attr_fold.proofs.refolding.standing.Goals as goal

pub returns-in-Some-clause-stands : goal.returns-in-Some-clause-stands
returns-in-Some-clause-stands g c =
    stands_is c.args.rows.now.facts.ordered c.args.rows.now.state c.args.rows.now.deletes c.requires c.args.p.now
    c.in-Some.row.now c.if-not-is_permanode_at.ensures.value c.in-Some.ensures.value c.if-row.true
