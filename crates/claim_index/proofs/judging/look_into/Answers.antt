-- Each look-up counts.
use Rattle.std.proofs.Common.{sym, arith}
use Rattle.claim_index.proofs.PartTicks.{needs_are, signed_changes}
use Rattle.claim_index.proofs.judging.look_into.Goals as goal

pub returns-in_err-mark-clause-ticks : goal.returns-in_err-mark-clause-ticks
returns-in_err-mark-clause-ticks g c =
    let n = needs_are c.args.rows.now.facts.ordered c.args.x.now c.in-Some.fact.now (sym c.in-Some.ensures.value) in
    omega (arith, n, c.row.ensures.ticks, c.is_signed-genuine.ensures.ticks, c.parts_fit-sound.ensures.ticks, c.mark.ensures.ticks)

pub returns-then-not-genuine-clause-ticks : goal.returns-then-not-genuine-clause-ticks
returns-then-not-genuine-clause-ticks g c =
    let n = needs_are c.args.rows.now.facts.ordered c.args.x.now c.in-Some.fact.now (sym c.in-Some.ensures.value) in
    omega (arith, n, c.row.ensures.ticks, c.is_signed-genuine.ensures.ticks, c.parts_fit-sound.ensures.ticks, c.mark.ensures.ticks)

pub returns-in_err-list_changes-clause-ticks : goal.returns-in_err-list_changes-clause-ticks
returns-in_err-list_changes-clause-ticks g c =
    let n = needs_are c.args.rows.now.facts.ordered c.args.x.now c.in-Some.fact.now (sym c.in-Some.ensures.value) in
    let s = signed_changes c.args.rows.now.facts.ordered (g.V.Verifier.accepts c.args.keys.now) c.args.x.now c.in-Some.fact.now (sym c.in-Some.ensures.value) c.is_signed-genuine.result c.is_signed-genuine.ensures.signed c.if-not-genuine.false in
    omega (arith, n, s, c.row.ensures.ticks, c.is_signed-genuine.ensures.ticks, c.parts_fit-sound.ensures.ticks, c.mark.ensures.ticks, c.list_changes.ensures.ticks)

pub returns-clause-ticks : goal.returns-clause-ticks
returns-clause-ticks g c =
    let n = needs_are c.args.rows.now.facts.ordered c.args.x.now c.in-Some.fact.now (sym c.in-Some.ensures.value) in
    let s = signed_changes c.args.rows.now.facts.ordered (g.V.Verifier.accepts c.args.keys.now) c.args.x.now c.in-Some.fact.now (sym c.in-Some.ensures.value) c.is_signed-genuine.result c.is_signed-genuine.ensures.signed c.if-not-genuine.false in
    omega (arith, n, s, c.row.ensures.ticks, c.is_signed-genuine.ensures.ticks, c.parts_fit-sound.ensures.ticks, c.mark.ensures.ticks, c.list_changes.ensures.ticks)
