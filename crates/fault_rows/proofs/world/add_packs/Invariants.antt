use Rattle.std.proofs.Common.{◌≡◌, ℕ, ◌≤◌, None}
use Rattle.std.specs.FinMap.{get}
use Rattle.pack_disk.specs.Past.{told}
use Rattle.fault_rows.proofs.world.add_packs.Given as goal

-- there is no pack from the number on
abbrev pub invariant-loop-number : goal.invariant-loop-number
invariant-loop-number l = (n : ℕ) → l.number ≤ n → get (told l.disk.history) n ≡ None
