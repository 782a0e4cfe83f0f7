-- what was put, and what is still to come, is the whole
use Rattle.std.proofs.Common.{◌≡◌, length}
use Rattle.claim_model.specs.Facts.{AreValid}
use Rattle.claim_index.specs.Indexed.{with_all}
use Rattle.claim_index.proofs.index.put_all.Given as goal

abbrev pub decreases-puts : goal.decreases-puts
decreases-puts g l = length l.left.items

abbrev pub invariant-puts : goal.invariant-puts
invariant-puts g l = (with_all l.facts l.left.items ≡ with_all l.fn.facts l.fn.list) × AreValid l.left.items
