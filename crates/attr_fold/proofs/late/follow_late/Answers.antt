use Rattle.std.proofs.Common.{◌≡◌, ap, subst, ◌∙◌, length, is_some, arith, Some}
use Rattle.std.proofs.lemmas.Bool.{false≢true}
use Rattle.std.proofs.lemmas.Option.{same_Some}
use Rattle.std.proofs.lemmas.Result.{IfOk-weaker}
use Rattle.schema_fact.specs.Changes.{change_seen}
use Rattle.schema_fact.specs.declared.changes.Change.{Change}
use Rattle.index_rows.specs.Changes.{changes_after}
use Rattle.index_rows.specs.Holders.{HolderKey}
use Rattle.attr_fold.specs.Following.{counted_after, counted_before, taking_steps, IsSettled}
use Rattle.attr_fold.proofs.late.follow_late.Goals as goal

pub returns-clause-settled : goal.returns-clause-settled
returns-clause-settled g c =
    let change = c.in-Some.change in
    let old = c.args.rows.now in
    let new = c.write_late.new.rows.holders in
    let m = c.args.moment.now in
    let key : c.in_ok-key.key ≡ (change.attr.now, change.value.now, c.args.p.now) = c.in_ok-key.ensures
    ∙ (λ i. (c.as_str.ensures i, c.as_str-2.ensures i, c.args.p.now)) in
    IfOk-weaker c.write_late.result _ _
    (λ answer told done d found.
    let same : change_seen change ≡ d = same_Some (change_seen change) d (c.in-Some.ensures.value ∙ found) in
    subst (λ (x : Change). IsSettled c.args.p.now x (counted_before old.facts.ordered old.deletes old.changes
    c.args.p.now m) (counted_after old.facts.ordered old.deletes old.changes c.args.p.now m) old.holders new) same
    (subst (λ (k : HolderKey). IsSettled k.2 (record {
      on = change.on.now;
      act = change.act;
      attr = k.0;
      value = k.1;
    }) (counted_before old.facts.ordered old.deletes old.changes k.2 m)
    (counted_after old.facts.ordered old.deletes old.changes k.2 m) old.holders new) key
    (told done change.on.now)))
    c.write_late.ensures.settled

pub returns-clause-ticks : goal.returns-clause-ticks
returns-clause-ticks g c =
    let old = c.args.rows.now.changes in
    let key : c.in_ok-key.key ≡ (c.in-Some.change.attr.now, c.in-Some.change.value.now, c.args.p.now) =
    c.in_ok-key.ensures ∙ (λ i. (c.as_str.ensures i, c.as_str-2.ensures i, c.args.p.now)) in
    let n : length (changes_after old c.in_ok-key.key.2 (Some c.args.moment.now)) ≡ length
    (changes_after old c.args.p.now (Some c.args.moment.now))
    = ap (λ (k : HolderKey). length (changes_after old k.2 (Some c.args.moment.now))) key in
    let a = c.change_said.ensures.ticks in
    let b = c.write_late.ensures.ticks in
    omega (arith, n, a, b)

pub returns-clause-added : goal.returns-clause-added
returns-clause-added g c = λ d found add.
    let change = c.in-Some.change in
    let key : c.in_ok-key.key ≡ (change.attr.now, change.value.now, c.args.p.now) = c.in_ok-key.ensures
    ∙ (λ i. (c.as_str.ensures i, c.as_str-2.ensures i, c.args.p.now)) in
    let same : change_seen change ≡ d = same_Some (change_seen change) d (c.in-Some.ensures.value ∙ found) in
    let n : taking_steps c.args.rows.now.removals c.in_ok-key.key.2 c.in_ok-key.key.0 c.in_ok-key.key.1
    c.args.moment.now
    ≡ taking_steps c.args.rows.now.removals c.args.p.now d.attr d.value c.args.moment.now
    = ap (λ (k : HolderKey). taking_steps c.args.rows.now.removals k.2 k.0 k.1 c.args.moment.now) key
    ∙ ap (λ (x : Change). taking_steps c.args.rows.now.removals c.args.p.now x.attr x.value c.args.moment.now) same in
    let a = c.change_said.ensures.ticks in
    let b = c.write_late.ensures.added (ap (λ (x : Change). x.act) same ∙ add) in
    omega (arith, n, a, b)

pub returns-in_default-clause-done : goal.returns-in_default-clause-done
returns-in_default-clause-done g c = λ d found add. absurd (false≢true
    (ap is_some (c.in_default.ensures.value ∙ found)))

pub returns-clause-done : goal.returns-clause-done
returns-clause-done g c = λ d found add.
    let same : change_seen c.in-Some.change ≡ d = same_Some (change_seen c.in-Some.change) d
    (c.in-Some.ensures.value ∙ found) in
    c.write_late.ensures.done (ap (λ (x : Change). x.act) same ∙ add)
