use Rattle.std.proofs.Common.{◌≡◌, subst, Some, None, ◌∙◌}
use Rattle.pack_disk.specs.Packs.{least_from}
use Rattle.pack_disk.specs.Past.{told}
use Rattle.pack_disk.proofs.Least.{range_least, range_none}
use Rattle.pack_disk.proofs.history.History.first_from.Goals as goal

pub returns-in_err-number-clause-least : goal.returns-in_err-number-clause-least
returns-in_err-number-clause-least c = c.from_residual.ensures ∙ subst (λ past. None ≡ least_from c.args.from (told past)) c.self.view_is
    (range_none _ c.self.inside.held c.args.from c.range.result c.self.invariant.shown (c.range.ensures.in_range tt) c.in_err-number.ensures.steps.0)

pub returns-clause-least : goal.returns-clause-least
returns-clause-least c = subst (λ past. Some c.in_ok-number.number.now ≡ least_from c.args.from (told past)) c.self.view_is
    (range_least _ c.self.inside.held c.args.from c.range.result _ _ c.self.invariant.shown (c.range.ensures.in_range tt) c.in_ok-number.ensures.steps)
