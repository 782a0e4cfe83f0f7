use Rattle.std.proofs.Common.{sym, ◌∙◌}
use Rattle.search_meets.specs.Computed.{is_candidate}
use Rattle.search_meets.proofs.Marked.{none_kept, some_kept}
use Rattle.search_meets.proofs.valuing.keep_candidate.Goals as goal

pub returns-in_ok-push-clause-kept : goal.returns-in_ok-push-clause-kept
returns-in_ok-push-clause-kept g c =
    some_kept (is_candidate (g.K.Look.facts c.args.look.now) c.args.value.now c.args.matches.now c.args.v.now) c.args.v.now c.in-Some.r c.args.kept.now c.push.new.self
    (sym c.in-Some.is ∙ c.in_ok-r.ensures.value) c.in_ok-push.ensures.ok

pub returns-in_default-clause-kept : goal.returns-in_default-clause-kept
returns-in_default-clause-kept g c =
    none_kept (is_candidate (g.K.Look.facts c.args.look.now) c.args.value.now c.args.matches.now c.args.v.now) c.args.v.now c.args.kept.now
    (sym c.in_default.is ∙ c.in_ok-r.ensures.value)
