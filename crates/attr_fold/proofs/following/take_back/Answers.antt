use Rattle.std.proofs.Common.{◌≡◌, Bool, sym, ap, subst, ◌∙◌, ◌∷◌, [], is_some}
use Rattle.std.proofs.lemmas.Bool.{false≢true}
use Rattle.schema_fact.specs.Changes.{change_seen}
use Rattle.schema_fact.specs.declared.changes.Change.{Change}
use Rattle.std.proofs.lemmas.Slice.Eq.{bytes_eq-Decides}
use Rattle.std.specs.Str.{bytes_eq}
use Rattle.std.specs.FinMap.{remove}
use Rattle.index_rows.specs.Holders.{HolderKey, Holders}
use Rattle.attr_fold.specs.Following.{counted, is_end, AreFewer, IsTakenBack}
use Rattle.attr_fold.proofs.Standing.{lives, dies}
use Rattle.attr_fold.proofs.Walking.{change_is}
use Rattle.attr_fold.proofs.Dropping.{same_bytes, other_bytes, one_counted, none_counted_of, back_none, back_other, back_taken, drop_is_fewer, none_or_one}
use Rattle.attr_fold.proofs.following.take_back.Goals as goal

pub returns-in_default-clause-back : goal.returns-in_default-clause-back
returns-in_default-clause-back g c =
    absurd (false≢true (ap is_some (c.in_default.ensures.value ∙ change_is c.args.rows.now.facts.ordered c.args.rows.now.state c.args.key.now.2 c.args.moment.now c.requires.change)))

pub returns-then-ne-clause-back : goal.returns-then-ne-clause-back
returns-then-ne-clause-back g c =
    let old = c.args.rows.now in
    let k = c.args.moment.now in
    back_other c.args.key.now.0 c.args.key.now.2 old.holders (change_seen c.in-Some.change)
    (other_bytes c.as_str.result.now c.attr.result.now c.in-Some.change.attr.now c.args.key.now.0 c.as_str.ensures c.attr.ensures c.if-ne.ensures)
    (counted old.facts.ordered old.deletes (k ∷ [])) (none_or_one old.facts.ordered old.deletes k (change_seen c.in-Some.change) (sym c.in-Some.ensures.value))

pub returns-then-has_deleters-clause-back : goal.returns-then-has_deleters-clause-back
returns-then-has_deleters-clause-back g c =
    let old = c.args.rows.now in
    let k = c.args.moment.now in
    back_none c.args.key.now.0 c.args.key.now.2 old.holders (counted old.facts.ordered old.deletes (k ∷ []))
    (none_counted_of old.facts.ordered old.deletes k (dies old.facts.ordered old.state old.deletes c.requires.counted c.args.key.now.2 k c.requires.change c.if-has_deleters.ensures.some))

pub returns-clause-fewer : goal.returns-clause-fewer
returns-clause-fewer g c =
    let old = c.args.rows.now in
    let attr = c.args.key.now.0 in
    let p = c.args.key.now.2 in
    let v = c.in-Some.change.value.now in
    let given : c.in_ok-given.given ≡ (attr, v, p) = c.in_ok-given.ensures ∙ (λ i. (c.attr-2.ensures i, c.as_str-3.ensures i, c.permanode.ensures i)) in
    let whole : c.drop_row.new.self ≡ remove old.holders (attr, v, p) = c.drop_row.ensures.value ∙ ap (λ (x : HolderKey). remove old.holders x) given in
    subst (AreFewer attr p old.holders) (sym whole) (drop_is_fewer attr p old.holders v)

pub returns-clause-back : goal.returns-clause-back
returns-clause-back g c =
    let old = c.args.rows.now in
    let attr = c.args.key.now.0 in
    let p = c.args.key.now.2 in
    let v = c.in-Some.change.value.now in
    let given : c.in_ok-given.given ≡ (attr, v, p) = c.in_ok-given.ensures ∙ (λ i. (c.attr-2.ensures i, c.as_str-3.ensures i, c.permanode.ensures i)) in
    let whole : c.drop_row.new.self ≡ remove old.holders (attr, v, p) = c.drop_row.ensures.value ∙ ap (λ (x : HolderKey). remove old.holders x) given in
    let k = c.args.moment.now in
    let change = c.in-Some.change in
    let said = counted old.facts.ordered old.deletes (k ∷ []) in
    let live = lives old.facts.ordered old.state old.deletes c.requires.counted p k c.requires.change c.if-has_deleters.ensures.some in
    let own : change.attr.now ≡ attr = sym c.as_str.ensures ∙ (bytes_eq-Decides c.as_str.result.now c.attr.result.now).0 (same_bytes (bytes_eq c.as_str.result.now c.attr.result.now) c.if-ne.ensures) ∙ c.attr.ensures in
    let seen : change_seen change ≡ record { on = change.on.now; act = change.act; attr = attr; value = v } = λ i. record { on = change.on.now; act = change.act; attr = own i; value = v } in
    let one = one_counted old.facts.ordered old.deletes k (change_seen change) (sym c.in-Some.ensures.value) live ∙ ap (λ (x : Change). x ∷ []) seen in
    let ends : c.is_end-ends.result ≡ is_end change.act v = c.is_end-ends.ensures ∙ ap (is_end change.act) c.as_str-2.ensures in
    subst (λ (hs : Holders). IsTakenBack attr p said c.is_end-ends.result hs) (sym whole)
    (subst (λ (b : Bool). IsTakenBack attr p said b (remove old.holders (attr, v, p))) (sym ends)
    (back_taken attr p old.holders v change.on.now change.act said one))
