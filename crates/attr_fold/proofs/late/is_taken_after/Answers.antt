use Rattle.std.proofs.Common.{◌≡◌, [], ap, ◌∙◌}
use Rattle.index_rows.specs.Removals.{mark_of}
use Rattle.attr_fold.proofs.Taking.{both_ticks, first_takes, first_ticks, one_group, second_takes}
use Rattle.attr_fold.proofs.late.is_taken_after.Goals as goal

pub returns-then-is_decided_under-clause-taken : goal.returns-then-is_decided_under-clause-taken
returns-then-is_decided_under-clause-taken g c =
    let old = c.args.rows.now in
    let key = c.args.key.now in
    let all : c.mark_of-all.result ≡ mark_of key.0 [] = c.mark_of-all.ensures ∙ ap (λ a. mark_of a []) c.attr.ensures in
    let own : c.mark_of-own.result ≡ mark_of key.0 key.1 = c.mark_of-own.ensures
    ∙ (λ i. mark_of (c.attr-2.ensures i) (c.value.ensures i)) in
    first_takes old.facts.ordered old.deletes old.changes old.removals c.requires.taken key.2 key.0 key.1
    c.args.moment.now
    _ _ all own c.if-is_decided_under.ensures.decided

pub returns-then-is_decided_under-clause-ticks : goal.returns-then-is_decided_under-clause-ticks
returns-then-is_decided_under-clause-ticks g c =
    let old = c.args.rows.now in
    let key = c.args.key.now in
    let all : c.mark_of-all.result ≡ mark_of key.0 [] = c.mark_of-all.ensures ∙ ap (λ a. mark_of a []) c.attr.ensures in
    let own : c.mark_of-own.result ≡ mark_of key.0 key.1 = c.mark_of-own.ensures
    ∙ (λ i. mark_of (c.attr-2.ensures i) (c.value.ensures i)) in
    (first_ticks old.facts.ordered old.deletes old.changes old.removals c.requires.taken key.2 key.0 key.1
    c.args.moment.now
    _ _ all own c.args.steps.now c.is_decided_under.new.steps c.is_decided_under.ensures.ticks).0

pub returns-then-own-all-clause-taken : goal.returns-then-own-all-clause-taken
returns-then-own-all-clause-taken g c =
    let old = c.args.rows.now in
    let key = c.args.key.now in
    let all : c.mark_of-all.result ≡ mark_of key.0 [] = c.mark_of-all.ensures ∙ ap (λ a. mark_of a []) c.attr.ensures in
    let own : c.mark_of-own.result ≡ mark_of key.0 key.1 = c.mark_of-own.ensures
    ∙ (λ i. mark_of (c.attr-2.ensures i) (c.value.ensures i)) in
    one_group old.facts.ordered old.deletes old.changes old.removals c.requires.taken key.2 key.0 key.1
    c.args.moment.now
    _ _ all own c.if-is_decided_under.ensures.decided c.if-own-all.true

pub returns-then-own-all-clause-ticks : goal.returns-then-own-all-clause-ticks
returns-then-own-all-clause-ticks g c =
    let old = c.args.rows.now in
    let key = c.args.key.now in
    let all : c.mark_of-all.result ≡ mark_of key.0 [] = c.mark_of-all.ensures ∙ ap (λ a. mark_of a []) c.attr.ensures in
    let own : c.mark_of-own.result ≡ mark_of key.0 key.1 = c.mark_of-own.ensures
    ∙ (λ i. mark_of (c.attr-2.ensures i) (c.value.ensures i)) in
    (first_ticks old.facts.ordered old.deletes old.changes old.removals c.requires.taken key.2 key.0 key.1
    c.args.moment.now
    _ _ all own c.args.steps.now c.is_decided_under.new.steps c.is_decided_under.ensures.ticks).0

pub returns-clause-taken : goal.returns-clause-taken
returns-clause-taken g c =
    let old = c.args.rows.now in
    let key = c.args.key.now in
    let all : c.mark_of-all.result ≡ mark_of key.0 [] = c.mark_of-all.ensures ∙ ap (λ a. mark_of a []) c.attr.ensures in
    let own : c.mark_of-own.result ≡ mark_of key.0 key.1 = c.mark_of-own.ensures
    ∙ (λ i. mark_of (c.attr-2.ensures i) (c.value.ensures i)) in
    second_takes old.facts.ordered old.deletes old.changes old.removals c.requires.taken key.2 key.0 key.1
    c.args.moment.now
    _ _ all own c.if-is_decided_under.ensures.decided c.is_decided_under-2.result c.is_decided_under-2.ensures.decided

pub returns-clause-ticks : goal.returns-clause-ticks
returns-clause-ticks g c =
    let old = c.args.rows.now in
    let key = c.args.key.now in
    let all : c.mark_of-all.result ≡ mark_of key.0 [] = c.mark_of-all.ensures ∙ ap (λ a. mark_of a []) c.attr.ensures in
    let own : c.mark_of-own.result ≡ mark_of key.0 key.1 = c.mark_of-own.ensures
    ∙ (λ i. mark_of (c.attr-2.ensures i) (c.value.ensures i)) in
    (both_ticks old.facts.ordered old.deletes old.changes old.removals c.requires.taken key.2 key.0 key.1
    c.args.moment.now
    _ _ all own c.args.steps.now c.is_decided_under.new.steps c.is_decided_under-2.new.steps c.if-own-all.false
    c.is_decided_under.ensures.ticks c.is_decided_under-2.ensures.ticks).0
