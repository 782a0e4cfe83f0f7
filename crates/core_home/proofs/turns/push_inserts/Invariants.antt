use Rattle.std.proofs.Common.{◌≡◌, ◌++◌}
use Rattle.core_home.specs.Keeping.{inserted_from}
use Rattle.core_home.proofs.turns.push_inserts.Given as goal

-- the turns so far
abbrev pub invariant-turns : goal.invariant-turns
invariant-turns l = l.inserts.items ≡ l.fn.inserts.items ++ inserted_from l.drawn l.n
