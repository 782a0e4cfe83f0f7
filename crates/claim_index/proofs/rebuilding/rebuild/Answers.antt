use Rattle.std.proofs.Common.{ℕ, List, [], sym, subst}
use Rattle.index_rows.specs.declared.rows.Rows.{Rows}
use Rattle.claim_index.specs.Halfway.{IsHalfway}
use Rattle.claim_index.proofs.Finishable.{can_be_finished}
use Rattle.claim_index.proofs.OneJudged.{ok_then}
use Rattle.claim_index.proofs.Settleable.{can_be_settled}
use Rattle.claim_index.proofs.Whole.{no_rows, none_taken, rests_once}
use Rattle.claim_index.proofs.rebuilding.rebuild.Goals as goal

pub take_all-requires-clause-halfway : goal.take_all-requires-clause-halfway
take_all-requires-clause-halfway g c =
    let a = g.V.Verifier.accepts c.args.keys.now in
    let rows : Rows = record {
      facts = c.args.rows.now.facts;
      state = c.empty.result;
      waiters = c.empty-2.result;
      deletes = c.empty-3.result;
      changes = c.empty-4.result;
      removals = c.empty-5.result;
      holders = c.empty-6.result;
    } in
    subst (λ (ds : List (List ℕ)). IsHalfway a [] ds c.none-work.result.concerned rows)
    (sym c.none-work.ensures.deletes)
    (subst (λ (cs : List (List ℕ)). IsHalfway a [] [] cs rows) (sym c.none-work.ensures.concerned)
    (no_rows a rows c.empty.ensures c.empty-2.ensures c.empty-3.ensures c.empty-4.ensures c.empty-5.ensures
    c.empty-6.ensures))

pub take_all-requires-clause-none : goal.take_all-requires-clause-none
take_all-requires-clause-none g c = none_taken
    (record {
      facts = c.args.rows.now.facts;
      state = c.empty.result;
      waiters = c.empty-2.result;
      deletes = c.empty-3.result;
      changes = c.empty-4.result;
      removals = c.empty-5.result;
      holders = c.empty-6.result;
    })
    c.empty.ensures

pub finish-requires : goal.finish-requires
finish-requires g c =
    let accepts = g.V.Verifier.accepts c.args.keys.now in
    let work = c.take_all.new.work in
    let half = c.in_ok-take_all.ensures.halfway in
    record {
      finished = can_be_finished accepts work.deletes work.concerned c.take_all.new.rows half;
      able = can_be_settled accepts work.deletes work.concerned c.take_all.new.rows half;
    }

pub returns-clause-rest : goal.returns-clause-rest
returns-clause-rest g c =
    let a = g.V.Verifier.accepts c.args.keys.now in
    rests_once c.finish.result a c.take_all.new.rows c.finish.new.rows c.finish.ensures.facts
    c.in_ok-take_all.ensures.all c.finish.ensures.taken
    (ok_then c.finish.result (λ f. f a c.in_ok-take_all.ensures.halfway) c.finish.ensures.halfway)
