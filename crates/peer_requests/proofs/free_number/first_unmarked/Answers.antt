use Rattle.std.proofs.Common.{ℕ, arith, ap}
use Rattle.std.specs.Bool.{◌==◌}
use Rattle.peer_requests.proofs.Marked.{no_zeros}
use Rattle.peer_requests.proofs.free_number.first_unmarked.Goals as goal

pub unreachable-requires : goal.unreachable-requires
unreachable-requires c =
    let none = no_zeros c.args.flags.now (λ k small is. c.in-None.ensures k (omega arith) small (ap (λ (x : ℕ). x == 0) is)) in
    omega (arith, none, c.requires)
