use Rattle.std.proofs.Common.{List, ℕ, ◌≤◌, length, subst, sym, ◌∙◌}
use Rattle.peer_requests.proofs.Digits.{few_digits}
use Rattle.peer_requests.proofs.boundaries.boundary_of.Goals as goal

pub boundary_with-requires : goal.boundary_with-requires
boundary_with-requires c =
    subst (λ (l : List ℕ). length l ≤ 8) (sym (c.as_bytes.ensures.value ∙ c.format.ensures.text)) (few_digits c.args.number c.requires)
