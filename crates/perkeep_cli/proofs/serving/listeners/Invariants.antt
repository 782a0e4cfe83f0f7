use Rattle.std.specs.Prelude.{◌≤◌, vec_len}
use Rattle.perkeep_cli.proofs.serving.listeners.Given as goal

abbrev pub invariant-workers : goal.invariant-workers
invariant-workers l = vec_len l.listeners ≤ l.counter
