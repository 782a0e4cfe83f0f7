use Rattle.std.proofs.Common.{◌∙◌, nat_le, sym, ap, arith}
use Rattle.search_query.specs.declared.query.Constraint.TheViews.{out-Constraint, out-Logical, out-PermanodeTest, out-Relation}
use Rattle.search_query.specs.Valid.{nests, joined_nests, tested_nests, related_nests}
use Rattle.search_query.specs.View.{asked_view, logical_seen, permanode_seen, relation_seen}
use Rattle.search_query.proofs.Layers.{asked_out, joined_out, tested_out, kin_out}
use Rattle.words_read.proofs.Bounds.{both_then, both_else, deeper_then, deeper_else}
use Rattle.words_read.proofs.depth.+nests.Goals as goal

pub nests_within-returns-then-joined_within : goal.nests_within-returns-then-joined_within
nests_within-returns-then-joined_within t c =
    let o = out-Constraint c.args.constraint.now in
    deeper_then (joined_nests (logical_seen o.logical)) (tested_nests (permanode_seen o.permanode)) c.args.most
    c.joined_within.result c.tested_within.result (omega arith) c.joined_within.ensures c.if-joined_within.true
    c.tested_within.ensures
    ∙ ap (λ a. nat_le (nests a) c.args.most) (sym (asked_out c.args.constraint.now))

pub nests_within-returns-else-joined_within : goal.nests_within-returns-else-joined_within
nests_within-returns-else-joined_within t c =
    let o = out-Constraint c.args.constraint.now in
    c.if-joined_within.false
    ∙ deeper_else (joined_nests (logical_seen o.logical)) (tested_nests (permanode_seen o.permanode)) c.args.most
    c.joined_within.result (omega arith) c.joined_within.ensures c.if-joined_within.false
    ∙ ap (λ a. nat_le (nests a) c.args.most) (sym (asked_out c.args.constraint.now))

pub operands_within-returns-then-asked_within : goal.operands_within-returns-then-asked_within
operands_within-returns-then-asked_within t c =
    let o = out-Logical c.args.logical.now in
    both_then (nests (asked_view o.a)) (nests (asked_view o.b)) c.args.most c.asked_within.result
    c.asked_within-then-asked_within.result c.asked_within.ensures c.if-asked_within.true
    c.asked_within-then-asked_within.ensures
    ∙ ap (λ a. nat_le (joined_nests a) c.args.most) (sym (joined_out c.args.logical.now))

pub operands_within-returns-else-asked_within : goal.operands_within-returns-else-asked_within
operands_within-returns-else-asked_within t c =
    let o = out-Logical c.args.logical.now in
    c.if-asked_within.false
    ∙ both_else (nests (asked_view o.a)) (nests (asked_view o.b)) c.args.most c.asked_within.result
    c.asked_within.ensures c.if-asked_within.false
    ∙ ap (λ a. nat_le (joined_nests a) c.args.most) (sym (joined_out c.args.logical.now))

pub test_within-returns-then-asked_within : goal.test_within-returns-then-asked_within
test_within-returns-then-asked_within t c =
    let o = out-PermanodeTest c.args.test.now in
    both_then (nests (asked_view o.value_in_set)) (related_nests (relation_seen o.relation)) c.args.most
    c.asked_within.result c.related_within.result c.asked_within.ensures c.if-asked_within.true
    c.related_within.ensures
    ∙ ap (λ a. nat_le (tested_nests a) c.args.most) (sym (tested_out c.args.test.now))

pub test_within-returns-else-asked_within : goal.test_within-returns-else-asked_within
test_within-returns-else-asked_within t c =
    let o = out-PermanodeTest c.args.test.now in
    c.if-asked_within.false
    ∙ both_else (nests (asked_view o.value_in_set)) (related_nests (relation_seen o.relation)) c.args.most
    c.asked_within.result c.asked_within.ensures c.if-asked_within.false
    ∙ ap (λ a. nat_le (tested_nests a) c.args.most) (sym (tested_out c.args.test.now))

pub relation_within-returns-then-asked_within : goal.relation_within-returns-then-asked_within
relation_within-returns-then-asked_within t c =
    let o = out-Relation c.args.relation.now in
    both_then (nests (asked_view o.any)) (nests (asked_view o.all)) c.args.most c.asked_within.result
    c.asked_within-then-asked_within.result c.asked_within.ensures c.if-asked_within.true
    c.asked_within-then-asked_within.ensures
    ∙ ap (λ a. nat_le (related_nests a) c.args.most) (sym (kin_out c.args.relation.now))

pub relation_within-returns-else-asked_within : goal.relation_within-returns-else-asked_within
relation_within-returns-else-asked_within t c =
    let o = out-Relation c.args.relation.now in
    c.if-asked_within.false
    ∙ both_else (nests (asked_view o.any)) (nests (asked_view o.all)) c.args.most c.asked_within.result
    c.asked_within.ensures c.if-asked_within.false
    ∙ ap (λ a. nat_le (related_nests a) c.args.most) (sym (kin_out c.args.relation.now))
