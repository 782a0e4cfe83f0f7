use Rattle.std.proofs.Common.{◌≡◌, length, rules, refl, ap, subst, sym}
use Rattle.search_query.specs.declared.query.Constraint.TheViews.{out-Constraint, out-Logical, out-PermanodeTest, out-Relation}
use Rattle.search_query.specs.View.{view, logical_view, permanode_view, relation_view, logical_seen, permanode_seen, relation_seen, asked_view, leaves_of, test_leaves_of}
use Rattle.search_query.proofs.Layers.{asked_out, joined_out, tested_out, kin_out}
use Rattle.query_text.specs.Text.{asked_item, joined_item, tested_item, related_item, constraint_fields, logical_fields, permanode_fields, relation_fields}
use Rattle.query_text.specs.Laws.{Holds, HoldsJoined, HoldsTested, HoldsRelated}
use Rattle.query_text.proofs.Pairs.{also, finished_spelled}
use Rattle.query_text.proofs.constraints.+write.Goals as goal

pub constraint_pair-returns-clause-written : goal.constraint_pair-returns-clause-written
constraint_pair-returns-clause-written t c =
    let o = out-Constraint c.args.constraint.now in
    let at : c.len-start.result ≡ length c.push_key.new.out.items = (let e = c.len-start.ensures in let same = c.push_key.new.out.ok in search (rules, e, same)) in
    finished_spelled c.args.key.now (λ spell. constraint_fields (joined_item spell (logical_seen o.logical)) (leaves_of o) (tested_item spell (permanode_seen o.permanode)))
    (λ spell. asked_item spell (view c.args.constraint.now)) c.args.out.now.items c.push_key.new.out.items c.permanode_field.new.out.items c.close_object.new.out.items c.len-start.result c.close_object.result
    (λ spell. ap (asked_item spell) (asked_out c.args.constraint.now)) c.in_ok-push_key.ensures at
    (λ spell spells. (_, c.in_ok-logical_field.ensures.written spell spells, (_, c.in_ok-truth_field.ensures, (_, c.in_ok-text_field.ensures.written, (_, c.in_ok-text_field-2.ensures.written, (_, c.in_ok-int_test_field.ensures.written, (_, c.in_ok-file_test_field.ensures.written, (_, c.in_ok-permanode_field.ensures.written spell spells, refl)))))))) c.close_object.ensures

pub logical_pair-returns-clause-written : goal.logical_pair-returns-clause-written
logical_pair-returns-clause-written t c =
    let o = out-Logical c.args.logical.now in
    let at : c.len-start.result ≡ length c.push_key.new.out.items = (let e = c.len-start.ensures in let same = c.push_key.new.out.ok in search (rules, e, same)) in
    finished_spelled c.args.key.now (λ spell. logical_fields o.op (asked_item spell (asked_view o.a)) (asked_item spell (asked_view o.b)))
    (λ spell. joined_item spell (logical_view c.args.logical.now)) c.args.out.now.items c.push_key.new.out.items c.constraint_field-2.new.out.items c.close_object.new.out.items c.len-start.result c.close_object.result
    (λ spell. ap (joined_item spell) (joined_out c.args.logical.now)) c.in_ok-push_key.ensures at
    (λ spell spells. (_, c.in_ok-op_field.ensures, (_, c.in_ok-constraint_field.ensures.written spell spells, (_, c.in_ok-constraint_field-2.ensures.written spell spells, refl)))) c.close_object.ensures

pub permanode_pair-returns-clause-written : goal.permanode_pair-returns-clause-written
permanode_pair-returns-clause-written t c =
    let o = out-PermanodeTest c.args.test.now in
    let at : c.len-start.result ≡ length c.push_key.new.out.items = (let e = c.len-start.ensures in let same = c.push_key.new.out.ok in search (rules, e, same)) in
    finished_spelled c.args.key.now (λ spell. permanode_fields spell (test_leaves_of o) (asked_item spell (asked_view o.value_in_set)) (related_item spell (relation_seen o.relation)))
    (λ spell. tested_item spell (permanode_view c.args.test.now)) c.args.out.now.items c.push_key.new.out.items c.relation_field.new.out.items c.close_object.new.out.items c.len-start.result c.close_object.result
    (λ spell. ap (tested_item spell) (tested_out c.args.test.now)) c.in_ok-push_key.ensures at
    (λ spell spells. (_, c.in_ok-date_field.ensures.written spell spells, (_, c.in_ok-text_field.ensures.written, (_, c.in_ok-text_field-2.ensures.written, (_, c.in_ok-text_test_field.ensures.written, (_, c.in_ok-constraint_field.ensures.written spell spells, (_, c.in_ok-int_test_field.ensures.written, (_, c.in_ok-relation_field.ensures.written spell spells, refl)))))))) c.close_object.ensures

pub relation_pair-returns-clause-written : goal.relation_pair-returns-clause-written
relation_pair-returns-clause-written t c =
    let o = out-Relation c.args.relation.now in
    let at : c.len-start.result ≡ length c.push_key.new.out.items = (let e = c.len-start.ensures in let same = c.push_key.new.out.ok in search (rules, e, same)) in
    finished_spelled c.args.key.now (λ spell. relation_fields o.relation (asked_item spell (asked_view o.any)) (asked_item spell (asked_view o.all)))
    (λ spell. related_item spell (relation_view c.args.relation.now)) c.args.out.now.items c.push_key.new.out.items c.constraint_field-2.new.out.items c.close_object.new.out.items c.len-start.result c.close_object.result
    (λ spell. ap (related_item spell) (kin_out c.args.relation.now)) c.in_ok-push_key.ensures at
    (λ spell spells. (_, c.in_ok-kin_field.ensures, (_, c.in_ok-constraint_field.ensures.written spell spells, (_, c.in_ok-constraint_field-2.ensures.written spell spells, refl)))) c.close_object.ensures

pub constraint_pair-returns-clause-holds : goal.constraint_pair-returns-clause-holds
constraint_pair-returns-clause-holds t c = also c.close_object.result
    (subst Holds (sym (asked_out c.args.constraint.now)) (
      c.in_ok-logical_field.ensures.holds,
      (c.in_ok-text_field.ensures.holds, c.in_ok-text_field-2.ensures.holds, c.in_ok-int_test_field.ensures.holds, c.in_ok-file_test_field.ensures.holds),
      c.in_ok-permanode_field.ensures.holds,
    ))

pub logical_pair-returns-clause-holds : goal.logical_pair-returns-clause-holds
logical_pair-returns-clause-holds t c = also c.close_object.result
    (subst HoldsJoined (sym (joined_out c.args.logical.now)) (c.in_ok-constraint_field.ensures.holds, c.in_ok-constraint_field-2.ensures.holds))

pub permanode_pair-returns-clause-holds : goal.permanode_pair-returns-clause-holds
permanode_pair-returns-clause-holds t c = also c.close_object.result
    (subst HoldsTested (sym (tested_out c.args.test.now)) (
      (c.in_ok-date_field.ensures.holds, c.in_ok-text_field.ensures.holds, c.in_ok-text_field-2.ensures.holds, c.in_ok-text_test_field.ensures.holds, c.in_ok-int_test_field.ensures.holds),
      c.in_ok-constraint_field.ensures.holds,
      c.in_ok-relation_field.ensures.holds,
    ))

pub relation_pair-returns-clause-holds : goal.relation_pair-returns-clause-holds
relation_pair-returns-clause-holds t c = also c.close_object.result
    (subst HoldsRelated (sym (kin_out c.args.relation.now)) (c.in_ok-constraint_field.ensures.holds, c.in_ok-constraint_field-2.ensures.holds))
