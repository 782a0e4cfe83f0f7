use Rattle.std.proofs.lemmas.Result.{on_ok_weaker}
use Rattle.claim_index.proofs.Judgments.{judged_after, changed_after}
use Rattle.attr_fold.proofs.Dropping.{on_both}
use Rattle.claim_index.proofs.Removed.{removed_after}
use Rattle.claim_index.proofs.judging.judge.Goals as goal

pub returns-clause-judged : goal.returns-clause-judged
returns-clause-judged g c =
    on_ok_weaker c.look_into.result (λ is facts left can judged.
    judged_after facts c.args.rows.now.facts.ordered
    (g.V.Verifier.accepts c.args.keys.now) c.args.rows.now.state left c.args.x.now can c.look_into.new.rows.state is
    judged) c.look_into.ensures.state

pub returns-clause-removals : goal.returns-clause-removals
returns-clause-removals g c =
    on_both c.look_into.result
    (removed_after c.args.rows.now.facts.ordered (g.V.Verifier.accepts c.args.keys.now) c.args.x.now
    c.args.rows.now.changes
    c.look_into.new.rows.changes c.args.rows.now.removals c.look_into.new.rows.removals)
    c.look_into.ensures.changes c.look_into.ensures.removals

pub returns-clause-changed : goal.returns-clause-changed
returns-clause-changed g c =
    on_ok_weaker c.look_into.result (λ is facts left can changed.
    changed_after facts c.args.rows.now.facts.ordered
    (g.V.Verifier.accepts c.args.keys.now) c.args.rows.now.state left c.args.x.now can c.args.rows.now.changes
    c.look_into.new.rows.changes is changed) c.look_into.ensures.changes
