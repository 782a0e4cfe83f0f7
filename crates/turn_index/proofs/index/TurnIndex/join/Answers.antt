use Rattle.std.proofs.Common.{◌≡◌, ap, length, true}
use Rattle.histories.specs.Indexes.{inserts, is_legal_index}
use Rattle.histories.proofs.Prefixes.{prefix_length}
use Rattle.histories.proofs.Standing.{inserts_prefix}
use Rattle.turn_cell.specs.Seats.{about, seen, turns}
use Rattle.turn_index.specs.IndexSeats.{accepts_of}
use Rattle.turn_cell.proofs.Longer.{longer_keeps, longer_counts}
use Rattle.turn_index.proofs.Turning.{joined}
use Rattle.turn_index.proofs.index.TurnIndex.join.Goals as goal

pub invariant_of-into-clause-legal : goal.invariant_of-into-clause-legal
invariant_of-into-clause-legal g c =
    let one = c.args.into.now in
    let other = c.args.other in
    longer_keeps (λ h. is_legal_index h ≡ true) (seen one.seat) (seen other.seat) (seen c.join.new.into) c.join.ensures.longer one.legal other.legal

pub invariant_of-into-clause-counted : goal.invariant_of-into-clause-counted
invariant_of-into-clause-counted g c =
    let one = c.args.into.now in
    let other = c.args.other in
    longer_counts (λ h. length (inserts h)) (λ x y p. prefix_length (inserts x) (inserts y) (inserts_prefix x y p))
    (seen one.seat) (seen other.seat) (seen c.join.new.into) one.count other.count c.max-into.result c.max-into.ensures c.join.ensures.longer one.counted other.counted

pub returns-clause-join : goal.returns-clause-join
returns-clause-join g c =
    let one = c.args.into.now.seat in
    let other = c.args.other.seat in
    let left = c.join.new.into in
    let join = c.join.ensures in
    let accepts = accepts_of g.V.Verifier.accepts in
    joined (seen one) (seen other) (seen left) (turns one) (turns other) (turns left) (accepts (about one)) (accepts (about other)) (accepts (about left))
    join.longer join.turns join.own_one join.own_other join.later_one join.later_other (ap accepts join.same) (ap accepts join.about)
