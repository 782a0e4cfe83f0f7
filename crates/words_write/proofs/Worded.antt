-- The word of a permanode test that asks for a relation.
use Rattle.std.proofs.Common.{◌≡◌, true, false, Option, Some, None, is_some, Box, refl, sym, ap, subst, ◌∙◌}
use Rattle.std.specs.declared.alloc.Global.{Global}
use Rattle.search_query.specs.declared.query.Constraint.{Constraint}
use Rattle.search_query.specs.declared.query.PermanodeTest.{PermanodeTest}
use Rattle.search_query.specs.declared.query.Relation.{Relation}
use Rattle.search_query.specs.declared.query.Constraint.TheViews.{out-PermanodeTest, out-Relation}
use Rattle.search_query.specs.Mirror.{TestLeaves, not_asked, permanode, relation}
use Rattle.search_query.specs.View.{asked_view, permanode_view, relation_view, relation_seen, test_leaves_of}
use Rattle.search_query.proofs.Layers.{tested_out, kin_out}
use Rattle.words_write.specs.Writing.{none_of, related_word, tested_word, if_only}

none_asked : (s : Option (Box Constraint Global)) → is_some s ≡ false → asked_view s ≡ not_asked
none_asked None h = refl
none_asked (Some c) h = absurd (cc h)

alone : (t : PermanodeTest) → is_some (out-PermanodeTest t).value_in_set ≡ false
    → tested_word (permanode (test_leaves_of (out-PermanodeTest t)) not_asked
    (relation_seen (out-PermanodeTest t).relation))
    ≡ tested_word (permanode_view t)
alone t h =
    let o = out-PermanodeTest t in
    ap (λ a. tested_word (permanode (test_leaves_of o) a (relation_seen o.relation))) (sym (none_asked o.value_in_set h))
    ∙ ap tested_word (sym (tested_out t))

related_by : (l : TestLeaves) (r : Relation) → none_of l ≡ true
    → tested_word (permanode l not_asked (relation_view r)) ≡ related_word (relation_view r)
related_by l r e =
    let o = out-Relation r in
    subst (λ q. tested_word (permanode l not_asked q) ≡ related_word q) (sym (kin_out r))
    (ap (λ b. if_only b (related_word (relation o.relation (asked_view o.any) (asked_view o.all)))) e)

pub kin_asked : (t : PermanodeTest) (r : Relation) → is_some (out-PermanodeTest t).value_in_set ≡ false
    → (out-PermanodeTest t).relation ≡ Some r
    → none_of (test_leaves_of (out-PermanodeTest t)) ≡ true
    → related_word (relation_view r) ≡ tested_word (permanode_view t)
kin_asked t r h e other =
    let o = out-PermanodeTest t in
    sym (related_by (test_leaves_of o) r other)
    ∙ ap (λ q. tested_word (permanode (test_leaves_of o) not_asked (relation_seen q))) (sym e)
    ∙ alone t h
