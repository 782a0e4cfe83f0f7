use Rattle.std.proofs.Common.{◌≡◌, []}
use Rattle.lab.proofs.serving.core.Given as goal

-- nothing is in hand
abbrev pub invariant-loop-place : goal.invariant-loop-place
invariant-loop-place l = l.core.state.hand ≡ []
