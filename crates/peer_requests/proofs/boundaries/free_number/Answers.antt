use Rattle.std.proofs.Common.{ℕ, List, subst, ◌∙◌}
use Rattle.peer_requests.specs.Boundaries.{IsLeastAbsent}
use Rattle.peer_requests.proofs.Standing.{free}
use Rattle.std.proofs.lemmas.Result.{IfOk-weaker}
use Rattle.peer_requests.proofs.boundaries.free_number.Goals as goal

pub returns : goal.returns
returns c =
    IfOk-weaker c.least_absent.result _ _ (λ n least. free c.args.blob.now n c.requires (subst (λ (l : List ℕ). IsLeastAbsent l n) (c.as_slice.ensures.value ∙ c.in_ok-numbers.ensures) least)) c.least_absent.ensures
