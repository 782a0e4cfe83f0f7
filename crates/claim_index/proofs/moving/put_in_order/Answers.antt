use Rattle.std.proofs.Common.{ap, ◌∙◌, sym}
use Rattle.std.proofs.lemmas.Result.{on_ok_weaker, on_err_weaker}
use Rattle.std.specs.FinMap.{insert}
use Rattle.claim_model.specs.Facts.{Facts}
use Rattle.index_rows.specs.Loose.{with_loose}
use Rattle.claim_index.specs.Numbers.{NumberSet, with_numbers}
use Rattle.index_rows.specs.Loose.{numbers_of}
use Rattle.claim_index.proofs.Settled.{all_ordered}
use Rattle.claim_index.proofs.moving.put_in_order.Goals as goal

pub returns-clause-put : goal.returns-clause-put
returns-clause-put g c = on_ok_weaker c.put.result
    (λ put. put ∙ ap (λ (m : Facts). insert m c.args.r.now c.args.fact)
    (sym (all_ordered c.move_all.new.facts c.in_ok-move_all.ensures.none) ∙ c.move_all.ensures.map))
    c.put.ensures.ok

pub returns-clause-none : goal.returns-clause-none
returns-clause-none g c = on_ok_weaker c.put.result (λ put. c.in_ok-move_all.ensures.none) c.put.ensures.ok

pub returns-clause-room : goal.returns-clause-room
returns-clause-room g c = on_ok_weaker c.put.result (λ put. c.in_ok-make_room.ensures.room) c.put.ensures.ok

pub returns-clause-map : goal.returns-clause-map
returns-clause-map g c = on_err_weaker c.put.result
    (λ same. ap (with_loose c.move_all.new.facts.loose) same ∙ c.move_all.ensures.map) c.put.ensures.err

pub returns-clause-kept : goal.returns-clause-kept
returns-clause-kept g c = on_err_weaker c.put.result
    (λ same none. (λ i. record { ordered = same i; loose = c.move_all.new.facts.loose }) ∙ c.move_all.ensures.kept none) c.put.ensures.err

pub returns-clause-same : goal.returns-clause-same
returns-clause-same g c =
    ap (λ (s : NumberSet). with_numbers (numbers_of c.move_all.new.facts.loose) s) c.make_room.ensures.numbers ∙ c.move_all.ensures.same
