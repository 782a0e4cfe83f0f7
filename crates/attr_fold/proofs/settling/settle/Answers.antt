use Rattle.std.proofs.Common.{◌≡◌, refl, sym, ap, subst, ◌∙◌, length, Some, arith}
use Rattle.std.proofs.lemmas.Option.{same_Some}
use Rattle.schema_fact.specs.Changes.{change_seen}
use Rattle.schema_fact.specs.declared.changes.Act.{Act}
use Rattle.schema_fact.specs.declared.changes.Act.TheVariants.{Add as adds}
use Rattle.schema_fact.specs.declared.changes.Change.{Change}
use Rattle.index_rows.specs.Changes.{changes_after}
use Rattle.index_rows.specs.Counted.{has_deleters}
use Rattle.index_rows.specs.Holders.{HolderKey}
use Rattle.attr_fold.specs.Following.{counted_after, counted_before, IsTurned}
use Rattle.attr_fold.proofs.Flipped.{least_steps, nothing_settled, settled_rows, whole_steps}
use Rattle.attr_fold.proofs.Standing.{by_deleters}
use Rattle.attr_fold.proofs.Walking.{change_is}
use Rattle.attr_fold.proofs.settling.settle.Goals as goal

pub returns-then-not-holds_values-clause-settled : goal.returns-then-not-holds_values-clause-settled
returns-then-not-holds_values-clause-settled g c = λ done but before flip was.
    let old = c.args.rows.now in
    nothing_settled old.facts.ordered old.state old.changes before old.deletes c.args.p.now c.args.moment.now flip
    c.requires.there but old.holders old.holders was c.are_counted.ensures c.are_counted.ensures refl
    (sym c.if-not-holds_values.ensures.holds)

pub returns-clause-settled : goal.returns-clause-settled
returns-clause-settled g c = λ done but before flip was.
    let old = c.args.rows.now in
    let p = c.args.p.now in
    let k = c.args.moment.now in
    let new = c.settle_add.new.rows.holders in
    let change = c.in-Some.change in
    let is = c.requires.listed p k c.requires.there in
    let key : c.in_ok-key.key ≡ (change.attr.now, change.value.now, p) = c.in_ok-key.ensures
    ∙ (λ i. (c.as_str.ensures i, c.as_str-2.ensures i, p)) in
    let same : change_seen change ≡ is.change = same_Some (change_seen change) is.change
    (c.in-Some.ensures.value ∙ change_is old.facts.ordered old.state p k is) in
    let front = counted_before old.facts.ordered old.deletes old.changes in
    let back = counted_after old.facts.ordered old.deletes old.changes in
    settled_rows old.facts.ordered old.state old.changes before old.deletes p k flip c.requires.there but old.holders
    new was c.are_counted.ensures c.are_counted-2.ensures is (sym c.if-not-holds_values.ensures.holds)
    (has_deleters old.state k.1) (by_deleters old.facts.ordered old.state old.deletes c.requires.counted p k is)
    (subst (λ (x : Change). IsTurned (has_deleters old.state k.1) p x (front p k) (back p k) old.holders new) same
    (subst (λ (a : Act). IsTurned (has_deleters old.state k.1) p (record {
      on = change.on.now;
      act = a;
      attr = change.attr.now;
      value = change.value.now;
    }) (front p k) (back p k) old.holders new) (sym c.in-Add.is)
    (subst (λ (x : HolderKey). IsTurned (has_deleters old.state k.1) x.2 (record {
      on = change.on.now;
      act = adds;
      attr = x.0;
      value = x.1;
    }) (front x.2 k) (back x.2 k) old.holders new) key
    (c.in_ok-settle_add.ensures.settled change.on.now))))

pub returns-then-not-holds_values-clause-ticks : goal.returns-then-not-holds_values-clause-ticks
returns-then-not-holds_values-clause-ticks g c =
    let old = c.args.rows.now in
    let a = c.holds_values.ensures.ticks in
    let b = least_steps old.facts.ordered old.state old.changes c.args.p.now in
    omega (arith, a, b)

pub returns-clause-ticks : goal.returns-clause-ticks
returns-clause-ticks g c =
    let old = c.args.rows.now in
    let change = c.in-Some.change in
    let key : c.in_ok-key.key ≡ (change.attr.now, change.value.now, c.args.p.now) = c.in_ok-key.ensures
    ∙ (λ i. (c.as_str.ensures i, c.as_str-2.ensures i, c.args.p.now)) in
    let n : length (changes_after old.changes c.in_ok-key.key.2 (Some c.args.moment.now)) ≡ length
    (changes_after old.changes c.args.p.now (Some c.args.moment.now))
    = ap (λ (k : HolderKey). length (changes_after old.changes k.2 (Some c.args.moment.now))) key in
    let whole = whole_steps old.facts.ordered old.state old.changes c.args.p.now old.deletes
    (sym c.if-not-holds_values.ensures.holds) c.args.moment.now c.requires.there in
    let a = c.holds_values.ensures.ticks in
    let b = c.change_said.ensures.ticks in
    let d = c.settle_add.ensures.ticks in
    omega (arith, whole, n, a, b, d)

pub returns-in_err-settle_add-clause-ticks : goal.returns-in_err-settle_add-clause-ticks
returns-in_err-settle_add-clause-ticks g c =
    let old = c.args.rows.now in
    let change = c.in-Some.change in
    let key : c.in_ok-key.key ≡ (change.attr.now, change.value.now, c.args.p.now) = c.in_ok-key.ensures
    ∙ (λ i. (c.as_str.ensures i, c.as_str-2.ensures i, c.args.p.now)) in
    let n : length (changes_after old.changes c.in_ok-key.key.2 (Some c.args.moment.now)) ≡ length
    (changes_after old.changes c.args.p.now (Some c.args.moment.now))
    = ap (λ (k : HolderKey). length (changes_after old.changes k.2 (Some c.args.moment.now))) key in
    let whole = whole_steps old.facts.ordered old.state old.changes c.args.p.now old.deletes
    (sym c.if-not-holds_values.ensures.holds) c.args.moment.now c.requires.there in
    let a = c.holds_values.ensures.ticks in
    let b = c.change_said.ensures.ticks in
    let d = c.settle_add.ensures.ticks in
    omega (arith, whole, n, a, b, d)
