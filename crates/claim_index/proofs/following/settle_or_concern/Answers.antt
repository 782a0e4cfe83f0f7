-- The fact of the ref decides which case it is.
use Rattle.std.proofs.Common.{sym, arith}
use Rattle.std.proofs.lemmas.Result.{on_ok_weaker}
use Rattle.claim_index.proofs.SeenAlone.{added, addition_here, change_here, doubt_seen, kind_seen, none_seen, row_there}
use Rattle.claim_index.proofs.SeenAlone.{settled_seen}
use Rattle.claim_index.proofs.following.settle_or_concern.Goals as goal

pub returns-in_default-clause-seen : goal.returns-in_default-clause-seen
returns-in_default-clause-seen g c =
    none_seen c.args.rows.now c.args.y.now c.args.concerned.now c.args.steps.now c.row.new.steps
    (sym c.in_default.ensures.value) (omega (arith, c.row.ensures.ticks))

pub returns-in_default-kind_addition-clause-seen : goal.returns-in_default-kind_addition-clause-seen
returns-in_default-kind_addition-clause-seen g c =
    on_ok_weaker c.concern_kind.result
    (λ told. kind_seen c.args.rows.now c.args.y.now c.args.concerned.now c.args.steps.now c.concern_kind.new.steps
    c.in-Some.fact.now (sym c.in-Some.ensures.value) c.concern_kind.new.concerned told
    (omega (arith, c.row.ensures.ticks, c.concern_kind.ensures.ticks)))
    c.concern_kind.ensures.added

pub returns-then-not-says_genuine-clause-seen : goal.returns-then-not-says_genuine-clause-seen
returns-then-not-says_genuine-clause-seen g c =
    let change = c.in-Some-kind_addition.change in
    let says = sym c.in-Some-kind_addition.ensures in
    doubt_seen c.args.rows.now c.args.y.now c.args.concerned.now c.args.steps.now c.says_genuine.new.steps
    c.in-Some.fact.now (sym c.in-Some.ensures.value) change.0 change.1 says
    (sym c.if-not-says_genuine.ensures.says)
    (omega (arith, c.row.ensures.ticks, c.says_genuine.ensures.ticks))

pub settle-requires-clause-there : goal.settle-requires-clause-there
settle-requires-clause-there g c =
    let change = c.in-Some-kind_addition.change in
    let says = sym c.in-Some-kind_addition.ensures in
    row_there c.args.rows.now c.args.y.now c.args.concerned.now c.args.steps.now c.says_genuine.new.steps
    c.in-Some.fact.now (sym c.in-Some.ensures.value) change.0 change.1 says c.requires.able
    (sym c.if-not-says_genuine.ensures.says)

pub returns-clause-seen : goal.returns-clause-seen
returns-clause-seen g c =
    let rows = c.args.rows.now in
    let y = c.args.y.now in
    let before = c.args.concerned.now in
    let fact = c.in-Some.fact.now in
    let found = sym c.in-Some.ensures.value in
    let p = c.in-Some-kind_addition.change.0 in
    let k = c.in-Some-kind_addition.change.1 in
    let says = sym c.in-Some-kind_addition.ensures in
    let first = c.args.steps.now in
    let last = c.settle.new.steps in
    let told = c.in_ok-settle.ensures in
    let it = added rows y before first last fact found p k says in
    let done = told.done it.change (change_here rows y before first last fact found p k says) it.act in
    settled_seen rows y before first last fact found p k says c.settle.new.rows.holders
    (sym c.if-not-says_genuine.ensures.says) (told.settled done)

pub returns-in_err-settle-clause-ticks : goal.returns-in_err-settle-clause-ticks
returns-in_err-settle-clause-ticks g c = λ n within.
    let rows = c.args.rows.now in
    let y = c.args.y.now in
    let change = c.in-Some-kind_addition.change in
    let here = addition_here rows y c.args.concerned.now c.args.steps.now c.settle.new.steps c.in-Some.fact.now
    (sym c.in-Some.ensures.value) change.0 change.1 (sym c.in-Some-kind_addition.ensures) in
    let few = within change.0 change.1 (sym c.if-not-says_genuine.ensures.says) here in
    omega (arith, c.row.ensures.ticks, c.says_genuine.ensures.ticks, c.settle.ensures.ticks, few)

pub returns-clause-ticks : goal.returns-clause-ticks
returns-clause-ticks g c = λ n within.
    let rows = c.args.rows.now in
    let y = c.args.y.now in
    let change = c.in-Some-kind_addition.change in
    let here = addition_here rows y c.args.concerned.now c.args.steps.now c.settle.new.steps c.in-Some.fact.now
    (sym c.in-Some.ensures.value) change.0 change.1 (sym c.in-Some-kind_addition.ensures) in
    let few = within change.0 change.1 (sym c.if-not-says_genuine.ensures.says) here in
    omega (arith, c.row.ensures.ticks, c.says_genuine.ensures.ticks, c.settle.ensures.ticks, few)
