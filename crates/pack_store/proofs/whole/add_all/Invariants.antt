use Rattle.std.proofs.Common.{◌≡◌, ◌++◌, drop}
use Rattle.pack_store.proofs.whole.add_all.Given as goal

-- those so far, and those that are left, are all
abbrev pub invariant-loop-f : goal.invariant-loop-f
invariant-loop-f l = l.list ++ drop l.f-index l.more ≡ l.fn.list ++ l.more
