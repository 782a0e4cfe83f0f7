use Rattle.std.proofs.Common.{◌-◌, ◌++◌, ◌∷◌, [], take, arith, rules}
use Rattle.multipart_read.specs.Tokens.{content, ended}
use Rattle.multipart_read.proofs.Telling.{content_exceeds, content_delimits, content_closes, content_goes_on, told_end}
use Rattle.multipart_read.proofs.Chaining.{short_waits}
use Rattle.multipart_read.proofs.steps.in_content.Goals as goal

pub returns-then-seen-room-clause-leads : goal.returns-then-seen-room-clause-leads
returns-then-seen-room-clause-leads c = (
  content (take (16777216 - c.args.passed) c.args.work.now),
  c.in_ok-tell.ensures,
  content_exceeds _ _ _ _ _ _ _ _ _ c.first_mark-seen.ensures.value c.first_mark-seen.ensures.lies c.requires.passed (omega arith),
)

pub returns-in_ok-push-in-Delimiter-clause-leads : goal.returns-in_ok-push-in-Delimiter-clause-leads
returns-in_ok-push-in-Delimiter-clause-leads c = (
  content (take c.first_mark-seen.result.sure c.args.work.now) ++ ended ∷ [],
  told_end c.args.events.now c.tell-2.new.events c.push.new.self (take c.first_mark-seen.result.sure c.args.work.now) c.in_ok-tell-2.ensures c.in_ok-push-in-Delimiter.ensures.ok,
  content_delimits _ _ _ _ _ _ _ _ c.in-Delimiter.is c.first_mark-seen.ensures.value (search rules) (omega arith),
)

pub returns-in_ok-push-in-Close-clause-leads : goal.returns-in_ok-push-in-Close-clause-leads
returns-in_ok-push-in-Close-clause-leads c = (
  content (take c.first_mark-seen.result.sure c.args.work.now) ++ ended ∷ [],
  told_end c.args.events.now c.tell-2.new.events c.push-in-Close.new.self (take c.first_mark-seen.result.sure c.args.work.now) c.in_ok-tell-2.ensures c.in_ok-push-in-Close.ensures.ok,
  content_closes _ _ _ _ _ _ _ _ _ c.in-Close.is c.first_mark-seen.ensures.value (search rules) (omega arith),
)

pub returns-in-Undecided-clause-leads : goal.returns-in-Undecided-clause-leads
returns-in-Undecided-clause-leads c = (
  content (take c.first_mark-seen.result.sure c.args.work.now),
  c.in_ok-tell-2.ensures,
  content_goes_on _ _ _ _ _ _ _ c.in-Undecided.is c.first_mark-seen.ensures.value (search rules) (omega arith),
)

pub returns-in-Undecided-clause-waits : goal.returns-in-Undecided-clause-waits
returns-in-Undecided-clause-waits c _ = short_waits c.args.start.now c.args.work.now c.first_mark-seen.result c.in-Undecided.is c.first_mark-seen.ensures.value
