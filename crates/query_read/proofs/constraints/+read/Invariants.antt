use Rattle.std.proofs.Common.{◌+◌, ◌*◌}
use Rattle.query_read.proofs.constraints.+read.Given as goal

abbrev pub decreases-constraint : goal.decreases-constraint
decreases-constraint a = 8 * a.left

abbrev pub decreases-parts : goal.decreases-parts
decreases-parts a = 8 * a.left + 7

abbrev pub decreases-logical_under : goal.decreases-logical_under
decreases-logical_under a = 8 * a.left + 6

abbrev pub decreases-logical : goal.decreases-logical
decreases-logical a = 8 * a.left + 5

abbrev pub decreases-permanode_under : goal.decreases-permanode_under
decreases-permanode_under a = 8 * a.left + 6

abbrev pub decreases-permanode : goal.decreases-permanode
decreases-permanode a = 8 * a.left + 5

abbrev pub decreases-relation_under : goal.decreases-relation_under
decreases-relation_under a = 8 * a.left + 4

abbrev pub decreases-relation : goal.decreases-relation
decreases-relation a = 8 * a.left + 3

abbrev pub decreases-constraint_under : goal.decreases-constraint_under
decreases-constraint_under a = 8 * a.left + 1
