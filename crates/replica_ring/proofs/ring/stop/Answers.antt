use Rattle.std.proofs.Common.{sym, ◌∙◌, ap, arith, get_or}
use Rattle.edge_base.specs.Shelf.{with_blobs}
use Rattle.replica_ring.specs.Rings.{all_uploaded}
use Rattle.replica_ring.proofs.Running.{changed_beyond}
use Rattle.replica_ring.proofs.Changing.{given_ok, given_as}
use Rattle.replica_ring.proofs.Undoing.{valid_taken}
use Rattle.replica_ring.proofs.ring.stop.Goals as goal

pub returns-then-store-maps-clause-ok : goal.returns-then-store-maps-clause-ok
returns-then-store-maps-clause-ok c = sym (changed_beyond (λ h. all_uploaded h c.args.also.now) c.args.store c.args.maps.now c.if-store-maps.true)

pub returns-clause-ok : goal.returns-clause-ok
returns-clause-ok c =
    let here = get_or c.args.maps.now c.args.store c.index-maps-store.result in
    given_ok c.give.result (λ h. all_uploaded h c.args.also.now) c.args.maps.now c.args.store c.give.new.held c.index-maps-store.result (omega (arith, c.if-store-maps.false))
    (given_as c.give.result c.give.new.held _ (all_uploaded here c.args.also.now) c.give.ensures.ok
    (ap (with_blobs here) (c.as_slice.ensures.value ∙ c.in_ok-blobs.ensures) ∙ valid_taken here c.args.also.now))
