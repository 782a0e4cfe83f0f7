use Rattle.std.proofs.Common.{List, ℕ, sym, ap, ◌∙◌}
use Rattle.std.proofs.Math.ListN.{drop_of_length-le}
use Rattle.peer_requests.specs.Flags.{all_marked}
use Rattle.peer_requests.proofs.Marked.{some_unmarked, least_unmarked}
use Rattle.peer_requests.proofs.free_number.least_absent.Goals as goal

pub first_unmarked-requires : goal.first_unmarked-requires
first_unmarked-requires c =
    some_unmarked c.args.numbers.now c.loop-number.flags (ap (λ (l : List ℕ). all_marked l c.loop-number.flags) (sym (drop_of_length-le c.args.numbers.now c.loop-number-test.false)) ∙ c.loop-number.invariant)

pub returns : goal.returns
returns c =
    least_unmarked c.args.numbers.now c.loop-number.flags c.first_unmarked.result (ap (λ (l : List ℕ). all_marked l c.loop-number.flags) (sym (drop_of_length-le c.args.numbers.now c.loop-number-test.false)) ∙ c.loop-number.invariant) c.first_unmarked.ensures
