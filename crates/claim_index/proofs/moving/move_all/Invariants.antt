-- no fact and no number came or went
use Rattle.std.proofs.Common.{◌≡◌, ◌≤◌, ◌+◌, ◌*◌, [], length}
use Rattle.index_rows.specs.Loose.{numbers_of}
use Rattle.claim_index.specs.Halfway.{facts_in}
use Rattle.claim_index.specs.Numbers.{with_numbers}
use Rattle.claim_index.proofs.moving.move_all.Given as goal

abbrev pub invariant-rows : goal.invariant-rows
invariant-rows g l =
    (facts_in l.facts ≡ facts_in l.fn.facts)
    × (with_numbers (numbers_of l.facts.loose) l.numbers.numbers ≡ with_numbers (numbers_of l.fn.facts.loose) l.fn.numbers.numbers)
    × (numbers_of l.fn.facts.loose ≡ [] → l.facts ≡ l.fn.facts)
    × (l.steps + 3 * length (numbers_of l.facts.loose) ≤ l.fn.steps + 3 * length (numbers_of l.fn.facts.loose))
    × (length (numbers_of l.facts.loose) ≤ length (numbers_of l.fn.facts.loose))

abbrev pub decreases-rows : goal.decreases-rows
decreases-rows g l = length (numbers_of l.facts.loose)
