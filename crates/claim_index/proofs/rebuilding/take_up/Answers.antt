use Rattle.std.proofs.Common.{[], sym, ap, ◌∙◌, arith}
use Rattle.std.specs.FinMap.{contains_key}
use Rattle.claim_model.specs.Facts.{Facts}
use Rattle.index_rows.specs.Touched.{changed_refs}
use Rattle.claim_index.specs.Halfway.{taken}
use Rattle.claim_index.proofs.TakeUp.{few_freed, taken_ticks, finished_ticks, are_taken, covers_all}
use Rattle.claim_index.proofs.TouchedSum.{heads}
use Rattle.claim_index.proofs.Finishable.{can_be_finished}
use Rattle.claim_index.proofs.OneJudged.{ok_then}
use Rattle.claim_index.proofs.Settleable.{can_be_settled}
use Rattle.claim_index.proofs.Whole.{rests_once}
use Rattle.claim_index.proofs.LoneTicks.{none_covered, finishes_at_once}
use Rattle.claim_index.specs.Additions.{IsNoWork}
use Rattle.claim_index.proofs.rebuilding.take_up.Goals as goal
use Rattle.index_rows.proofs.LooseFacts.{in_order}

pub finish-requires : goal.finish-requires
finish-requires g c =
    let accepts = g.V.Verifier.accepts c.args.keys.now in
    let work = c.take_last.new.work in
    let half = c.in_ok-take_last.ensures.halfway in
    record {
      finished = can_be_finished accepts work.deletes work.concerned c.take_last.new.rows half;
      able = can_be_settled accepts work.deletes work.concerned c.take_last.new.rows half;
    }

pub returns-clause-rest : goal.returns-clause-rest
returns-clause-rest g c =
    let a = g.V.Verifier.accepts c.args.keys.now in
    let more = c.requires c.if-stale.false in
    rests_once c.finish.result a c.take_last.new.rows c.finish.new.rows c.finish.ensures.facts
    (λ y. c.in_ok-take_last.ensures.taken y ∙ sym (more.others y) ∙ ap (λ (f : Facts). contains_key f y) (sym (in_order c.in_ok-take_last.ensures.facts))) c.finish.ensures.taken
    (ok_then c.finish.result (λ f. f a c.in_ok-take_last.ensures.halfway) c.finish.ensures.halfway)

pub returns-in_err-take_last-clause-ticks : goal.returns-in_err-take_last-clause-ticks
returns-in_err-take_last-clause-ticks g c = λ fresh.
    taken_ticks (g.V.Verifier.accepts c.args.keys.now) c.args.rows.now c.args.r.now (c.requires fresh) c.args.steps.now c.take_last.new.steps
    (c.take_last.ensures.ticks _ (few_freed (g.V.Verifier.accepts c.args.keys.now) c.args.rows.now c.args.r.now (c.requires fresh)))

pub returns-clause-ticks : goal.returns-clause-ticks
returns-clause-ticks g c = λ fresh.
    let a = g.V.Verifier.accepts c.args.keys.now in
    let rows = c.args.rows.now in
    let r = c.args.r.now in
    let told = c.in_ok-take_last.ensures in
    let work = c.take_last.new.work in
    let none = c.none-work.result in
    let done = c.finish.ensures.ticks a (heads (taken rows) rows.facts.ordered a r) (changed_refs (taken rows) rows.facts.ordered a r) told.halfway
    (are_taken a rows r (c.requires fresh) c.take_last.new.rows told.facts told.taken none.deletes none.concerned work.deletes work.concerned c.none-work.ensures.deletes c.none-work.ensures.concerned told.adds told.halfway)
    (covers_all a rows r (c.requires fresh) c.take_last.new.rows told.facts told.taken none.deletes none.concerned work.deletes work.concerned c.none-work.ensures.deletes c.none-work.ensures.concerned told.adds told.halfway) in
    finished_ticks a rows r (c.requires fresh) c.take_last.new.rows told.facts told.taken none.deletes none.concerned work.deletes work.concerned c.none-work.ensures.deletes c.none-work.ensures.concerned told.adds told.halfway
    c.args.steps.now c.take_last.new.steps c.finish.new.steps
    (c.take_last.ensures.ticks _ (few_freed a rows r (c.requires fresh))) done

pub returns-in_err-take_last-clause-few_ticks : goal.returns-in_err-take_last-clause-few_ticks
returns-in_err-take_last-clause-few_ticks g c = λ fresh it. c.take_last.ensures.few_ticks it

pub returns-clause-few_ticks : goal.returns-clause-few_ticks
returns-clause-few_ticks g c = λ fresh it.
    let a = g.V.Verifier.accepts c.args.keys.now in
    let rows = c.args.rows.now in
    let now = c.take_last.new.rows in
    let told = c.in_ok-take_last.ensures in
    let work = c.take_last.new.work in
    let none = c.none-work.result in
    let first : IsNoWork none.deletes none.concerned = record {
      none_deleted = c.none-work.ensures.deletes;
      none_concerned = c.none-work.ensures.concerned;
    } in
    let idle = told.idle it first in
    let all = are_taken a rows c.args.r.now (c.requires fresh) now told.facts told.taken none.deletes none.concerned
    work.deletes work.concerned c.none-work.ensures.deletes c.none-work.ensures.concerned told.adds told.halfway in
    let done = c.finish.ensures.ticks a [] [] told.halfway all
    (none_covered now.facts.ordered a work.deletes work.concerned idle) in
    let nothing = finishes_at_once now.facts.ordered a work.deletes work.concerned idle in
    let few = c.take_last.ensures.few_ticks it in
    omega (arith, done, nothing, few)
