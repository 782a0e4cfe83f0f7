use Rattle.std.proofs.Common.{◌≡◌, drop}
use Rattle.home_core.specs.State.{seen_by}
use Rattle.home_core.proofs.lists.seen_by.Given as goal

-- what stands in front is of other sessions
abbrev pub invariant-seen : goal.invariant-seen
invariant-seen l = seen_by l.session l.seen ≡ seen_by l.session (drop l.s-index l.seen)
