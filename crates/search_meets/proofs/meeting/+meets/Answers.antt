use Rattle.std.proofs.Common.{◌∙◌, ◌&&◌, Some, refl, sym, ap, map, true, false}
use Rattle.std.proofs.lemmas.Result.{IfOk-weaker}
use Rattle.search_query.specs.declared.query.Op.TheVariants.{And}
use Rattle.search_query.specs.declared.query.Constraint.TheViews.{out-Constraint, out-Logical, out-PermanodeTest, out-Relation}
use Rattle.search_query.specs.View.{view, logical_seen, permanode_seen, relation_seen, asked_view, is_asked, leaves_of, test_leaves_of}
use Rattle.search_query.proofs.Layers.{asked_out, joined_out, tested_out, kin_out}
use Rattle.search_meets.specs.Meaning.{leaves_meet, meets, meets_logical, meets_tested, meets_related}
use Rattle.search_meets.specs.Values.{each_or_any, kin_meet, kin_of, live_meets, where_asked}
use Rattle.search_meets.proofs.Marked.{joined_both, mapped, set_marked, spread_both, where_none, where_some}
use Rattle.search_meets.proofs.meeting.+meets.Goals as goal

pub joined_marks-returns : goal.joined_marks-returns
joined_marks-returns g t c =
    let facts = g.K.Look.facts c.args.look.now in
    let accepts = g.K.Look.accepts c.args.look.now in
    let l = c.args.logical.now in
    IfOk-weaker c.joined.result _ _
    (λ m is. joined_both (out-Logical l).op (meets facts accepts (asked_view (out-Logical l).a) c.args.when.now) (meets facts accepts (asked_view (out-Logical l).b) c.args.when.now) _ c.args.refs.now _ _ m.items
    (c.deref.ensures.value ∙ c.in_ok-a.ensures) (c.deref-2.ensures.value ∙ c.in_ok-b.ensures)
    (ap (λ w. meets_logical facts accepts w c.args.when.now) (sym (joined_out l))) is)
    c.joined.ensures

pub marks-returns : goal.marks-returns
marks-returns g t c =
    let facts = g.K.Look.facts c.args.look.now in
    let accepts = g.K.Look.accepts c.args.look.now in
    let when = c.args.when.now in
    let o = out-Constraint c.args.constraint.now in
    let own = leaves_meet facts (leaves_of o) in
    let joined = meets_logical facts accepts (logical_seen o.logical) when in
    let both-is = spread_both own joined (λ r. own r && joined r) c.args.refs.now _ _ _ _ _ (c.deref.ensures.value ∙ c.in_ok-own.ensures) (c.deref-2.ensures.value ∙ c.in_ok-left.ensures)
    (c.deref-4.ensures.value ∙ c.in_ok-joined.ensures) (c.deref-3.ensures.value ∙ c.in_ok-own.ensures) refl c.in_ok-both.ensures in
    IfOk-weaker c.spread-2.result _ _
    (λ m is. spread_both (λ r. own r && joined r) (meets_tested facts accepts (permanode_seen o.permanode) when) _ c.args.refs.now _ _ _ _ m.items
    (c.deref-5.ensures.value ∙ both-is) (c.deref-6.ensures.value ∙ c.in_ok-left-2.ensures) (c.deref-8.ensures.value ∙ c.in_ok-tested.ensures) (c.deref-7.ensures.value ∙ both-is)
    (ap (λ w. meets facts accepts w when) (sym (asked_out c.args.constraint.now))) is)
    c.spread-2.ensures

pub tested_marks-returns : goal.tested_marks-returns
tested_marks-returns g t c =
    let facts = g.K.Look.facts c.args.look.now in
    let accepts = g.K.Look.accepts c.args.look.now in
    let when = c.args.when.now in
    let time = c.time_of-time.result in
    let e = c.time_of-time.ensures in
    let o = out-PermanodeTest c.args.test.now in
    let set = asked_view o.value_in_set in
    IfOk-weaker c.spread.result _ _
    (λ m is. spread_both (live_meets facts accepts (test_leaves_of o) (where_asked (is_asked set) (meets facts accepts set time)) time o.attr)
    (meets_related facts accepts (relation_seen o.relation) time) _ c.args.refs.now _ _ _ _ m.items
    (c.deref.ensures.value ∙ c.in_ok-valued.ensures) (c.deref-2.ensures.value ∙ c.in_ok-left.ensures) (c.deref-4.ensures.value ∙ c.in_ok-related.ensures) (c.deref-3.ensures.value ∙ c.in_ok-valued.ensures)
    ((λ i r. live_meets facts accepts (test_leaves_of o) (where_asked (is_asked set) (meets facts accepts set (e i))) (e i) o.attr r && meets_related facts accepts (relation_seen o.relation) (e i) r)
    ∙ ap (λ w. meets_tested facts accepts w when) (sym (tested_out c.args.test.now))) is)
    c.spread.ensures

pub kin_marks-returns : goal.kin_marks-returns
kin_marks-returns g t c =
    let facts = g.K.Look.facts c.args.look.now in
    let accepts = g.K.Look.accepts c.args.look.now in
    let when = c.args.when.now in
    let o = out-Relation c.args.relation.now in
    let any = kin_meet false (where_asked (is_asked (asked_view o.any)) (meets facts accepts (asked_view o.any) when)) in
    let all = kin_meet true (where_asked (is_asked (asked_view o.all)) (meets facts accepts (asked_view o.all) when)) in
    let kin = kin_of facts accepts o.relation when in
    IfOk-weaker c.joined.result _ _
    (λ m is. joined_both (Some And) (λ r. any (kin r)) (λ r. all (kin r)) _ c.args.refs.now _ _ m.items
    (c.deref-3.ensures.value ∙ c.in_ok-any.ensures ∙ ap (map any) (c.deref.ensures.value ∙ c.in_ok-links.ensures) ∙ mapped any kin c.args.refs.now)
    (c.deref-4.ensures.value ∙ c.in_ok-all.ensures ∙ ap (map all) (c.deref-2.ensures.value ∙ c.in_ok-links.ensures) ∙ mapped all kin c.args.refs.now)
    (ap (λ w. meets_related facts accepts w when) (sym (kin_out c.args.relation.now))) is)
    c.joined.ensures

pub asked_links-returns-in-None : goal.asked_links-returns-in-None
asked_links-returns-in-None g t c =
    let facts = g.K.Look.facts c.args.look.now in
    let accepts = g.K.Look.accepts c.args.look.now in
    IfOk-weaker c.trues.result _ _
    (λ m is. is ∙ (λ i. map (kin_meet c.args.each (where_none c.args.asked.now (λ a. meets facts accepts a c.args.when.now) c.in-None.is i)) c.args.links.now))
    c.trues.ensures

pub asked_links-returns-in-Some : goal.asked_links-returns-in-Some
asked_links-returns-in-Some g t c =
    let facts = g.K.Look.facts c.args.look.now in
    let accepts = g.K.Look.accepts c.args.look.now in
    IfOk-weaker c.linked_marks.result _ _
    (λ m is. is ∙ (λ i. map (each_or_any c.args.each (meets facts accepts (view (c.deref.ensures i)) c.args.when.now)) c.args.links.now)
    ∙ (λ i. map (kin_meet c.args.each (where_some c.args.asked.now c.in-Some.constraint (λ a. meets facts accepts a c.args.when.now) c.in-Some.is i)) c.args.links.now))
    c.linked_marks.ensures

pub set_marks-returns-in-None : goal.set_marks-returns-in-None
set_marks-returns-in-None g t c =
    let facts = g.K.Look.facts c.args.look.now in
    let accepts = g.K.Look.accepts c.args.look.now in
    let o = out-PermanodeTest c.args.test.now in
    IfOk-weaker c.named_marks.result _ _
    (λ m is. is ∙ (λ i. map (live_meets facts accepts (test_leaves_of o) (where_none o.value_in_set (λ a. meets facts accepts a c.args.when.now) c.in-None.is i) c.args.when.now (Some c.args.attr.now)) c.args.refs.now))
    c.named_marks.ensures

pub set_marks-returns-in_ok-links-in-Some : goal.set_marks-returns-in_ok-links-in-Some
set_marks-returns-in_ok-links-in-Some g t c =
    let facts = g.K.Look.facts c.args.look.now in
    let accepts = g.K.Look.accepts c.args.look.now in
    let when = c.args.when.now in
    let o = out-PermanodeTest c.args.test.now in
    let links = c.deref-in-Some.ensures.value ∙ c.in_ok-links-in-Some.ensures in
    IfOk-weaker c.linked_marks.result _ _
    (λ m is. is ∙ (λ i. map (each_or_any false (meets facts accepts (view (c.deref.ensures i)) when)) (links i))
    ∙ set_marked facts (meets facts accepts (view c.in-Some.constraint.value) when) accepts (test_leaves_of o) when c.args.attr.now c.args.refs.now
    ∙ (λ i. map (live_meets facts accepts (test_leaves_of o) (where_some o.value_in_set c.in-Some.constraint (λ a. meets facts accepts a when) c.in-Some.is i) when (Some c.args.attr.now)) c.args.refs.now))
    c.linked_marks.ensures
