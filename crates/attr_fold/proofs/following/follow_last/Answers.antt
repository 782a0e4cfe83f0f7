use Rattle.std.proofs.Common.{◌≡◌, ap, subst, ◌∙◌, length, is_some, arith}
use Rattle.std.proofs.lemmas.Bool.{false≢true}
use Rattle.std.proofs.lemmas.Option.{same_Some}
use Rattle.schema_fact.specs.Changes.{change_seen}
use Rattle.schema_fact.specs.declared.changes.Change.{Change}
use Rattle.index_rows.specs.Changes.{changes_before}
use Rattle.index_rows.specs.Holders.{HolderKey}
use Rattle.attr_fold.specs.Following.{counted_before, IsFollowed}
use Rattle.attr_fold.proofs.following.follow_last.Goals as goal

pub returns-clause-followed : goal.returns-clause-followed
returns-clause-followed g c =
    let change = c.in-Some.change in
    let old = c.args.rows.now in
    let new = c.write_change.new.rows.holders in
    let key : c.in_ok-key.key ≡ (change.attr.now, change.value.now, c.args.p.now) = c.in_ok-key.ensures
    ∙ (λ i. (c.as_str.ensures i, c.as_str-2.ensures i, c.args.p.now)) in
    λ is d found.
    let same : change_seen change ≡ d = same_Some (change_seen change) d (c.in-Some.ensures.value ∙ found) in
    subst (λ (x : Change). IsFollowed c.args.p.now x (counted_before old.facts.ordered old.deletes old.changes
    c.args.p.now c.args.moment.now) old.holders new) same
    (subst (λ (k : HolderKey). IsFollowed k.2 (record {
      on = change.on.now;
      act = change.act;
      attr = k.0;
      value = k.1;
    }) (counted_before old.facts.ordered old.deletes old.changes k.2 c.args.moment.now) old.holders new) key
    (c.in_ok-write_change.ensures.followed change.on.now))

pub returns-clause-ticks : goal.returns-clause-ticks
returns-clause-ticks g c =
    let key : c.in_ok-key.key ≡ (c.in-Some.change.attr.now, c.in-Some.change.value.now, c.args.p.now) =
    c.in_ok-key.ensures ∙ (λ i. (c.as_str.ensures i, c.as_str-2.ensures i, c.args.p.now)) in
    let n : length (changes_before c.args.rows.now.changes c.in_ok-key.key.2 c.args.moment.now) ≡ length
    (changes_before c.args.rows.now.changes c.args.p.now c.args.moment.now)
    = ap (λ (k : HolderKey). length (changes_before c.args.rows.now.changes k.2 c.args.moment.now)) key in
    let a = c.change_said.ensures.ticks in
    let b = c.write_change.ensures.ticks in
    omega (arith, n, a, b)

pub returns-clause-added : goal.returns-clause-added
returns-clause-added g c = λ d found add.
    let change = c.in-Some.change in
    let same : change_seen change ≡ d = same_Some (change_seen change) d (c.in-Some.ensures.value ∙ found) in
    let a = c.change_said.ensures.ticks in
    let b = c.write_change.ensures.added (ap (λ (x : Change). x.act) same ∙ add) in
    omega (arith, a, b)

pub returns-in_default-clause-done : goal.returns-in_default-clause-done
returns-in_default-clause-done g c = λ d found. absurd (false≢true (ap is_some (c.in_default.ensures.value ∙ found)))
