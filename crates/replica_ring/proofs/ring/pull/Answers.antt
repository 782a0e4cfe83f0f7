use Rattle.std.proofs.Common.{◌≡◌, sym, ◌∙◌, ap, arith, take, get_or}
use Rattle.edge_base.specs.Shelf.{with_blobs}
use Rattle.sync_core.specs.Copying.{lacking}
use Rattle.replica_ring.specs.Rings.{at, pulled}
use Rattle.replica_ring.proofs.Running.{others_change_nothing}
use Rattle.replica_ring.proofs.Changing.{at_or, given_ok, given_as}
use Rattle.replica_ring.proofs.ring.pull.Goals as goal
use Rattle.replica_ring.proofs.ring.pull.Goals.{then-source-maps-via-then-source-maps, then-source-maps-via-else-source-maps+then-target-maps}

pub returns-then-source-maps-clause-ok : goal.returns-then-source-maps-clause-ok
returns-then-source-maps-clause-ok c = elim c.then-source-maps.branch [
  | then-source-maps-via-then-source-maps w ↦ sym (others_change_nothing.source c.args.maps.now c.args.source c.args.target c.args.count w.if-source-maps.true)
  | then-source-maps-via-else-source-maps+then-target-maps w ↦ sym (others_change_nothing.target c.args.maps.now c.args.source c.args.target c.args.count w.if-target-maps.true)
]

pub returns-clause-ok : goal.returns-clause-ok
returns-clause-ok c =
    let maps = c.args.maps.now in
    let from = c.index-maps-source.result in
    let to = get_or maps c.args.target c.index-maps-target-2.result in
    let here : from ≡ at maps c.args.source = c.index-maps-source.is ∙ at_or maps c.args.source from (omega (arith, c.if-source-maps.false)) in
    let same : c.index-maps-target.result ≡ to =
    c.index-maps-target.is ∙ at_or maps c.args.target c.index-maps-target.result (omega (arith, c.if-target-maps.false))
    ∙ sym (at_or maps c.args.target c.index-maps-target-2.result (omega (arith, c.if-target-maps.false))) in
    let blobs : c.as_slice.result.now ≡ take c.args.count (lacking (at maps c.args.source) to) =
    c.as_slice.ensures.value ∙ c.in_ok-blobs.ensures ∙ (λ i. take c.args.count (lacking (here i) (same i))) in
    given_ok c.give.result (pulled (at maps c.args.source) c.args.count) maps c.args.target c.give.new.held c.index-maps-target-2.result (omega (arith, c.if-target-maps.false))
    (given_as c.give.result c.give.new.held _ (pulled (at maps c.args.source) c.args.count to) c.give.ensures.ok (ap (with_blobs to) blobs))
