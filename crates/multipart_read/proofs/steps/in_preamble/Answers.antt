use Rattle.std.proofs.Common.{arith, rules}
use Rattle.multipart_read.proofs.Telling.{preamble_exceeds, preamble_delimits, preamble_closes, preamble_goes_on}
use Rattle.multipart_read.proofs.Chaining.{short_waits}
use Rattle.multipart_read.proofs.steps.in_preamble.Goals as goal

pub returns-then-seen-passed-clause-leads : goal.returns-then-seen-passed-clause-leads
returns-then-seen-passed-clause-leads c =
    preamble_exceeds _ _ _ _ _ _ _ c.first_mark-seen.ensures.value c.first_mark-seen.ensures.lies c.requires.passed (omega arith)

pub returns-in-Delimiter-clause-leads : goal.returns-in-Delimiter-clause-leads
returns-in-Delimiter-clause-leads c =
    preamble_delimits _ _ _ _ _ _ c.in-Delimiter.is c.first_mark-seen.ensures.value (search rules) (omega arith)

pub returns-in-Close-clause-leads : goal.returns-in-Close-clause-leads
returns-in-Close-clause-leads c =
    preamble_closes _ _ _ _ _ _ _ c.in-Close.is c.first_mark-seen.ensures.value (search rules) (omega arith)

pub returns-in-Undecided-clause-leads : goal.returns-in-Undecided-clause-leads
returns-in-Undecided-clause-leads c =
    preamble_goes_on _ _ _ _ _ c.in-Undecided.is c.first_mark-seen.ensures.value (search rules) (omega arith)

pub returns-in-Undecided-clause-waits : goal.returns-in-Undecided-clause-waits
returns-in-Undecided-clause-waits c _ = short_waits c.args.start.now c.args.work.now c.first_mark-seen.result c.in-Undecided.is c.first_mark-seen.ensures.value
