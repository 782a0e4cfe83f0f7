use Rattle.std.proofs.Common.{sym, ◌∙◌, arith, get_or}
use Rattle.edge_base.specs.Shelf.{Blob}
use Rattle.replica_ring.specs.Rings.{uploaded}
use Rattle.replica_ring.proofs.Running.{changed_beyond}
use Rattle.replica_ring.proofs.Changing.{given_ok, given_as, not_taken, taken}
use Rattle.replica_ring.proofs.ring.upload.Goals as goal
use Rattle.replica_ring.proofs.ring.upload.Goals.{then-store-maps-via-then-store-maps, then-store-maps-via-else-store-maps+then-not-is_valid}

pub returns-then-store-maps-clause-ok : goal.returns-then-store-maps-clause-ok
returns-then-store-maps-clause-ok c = elim c.then-store-maps.branch [
  | then-store-maps-via-then-store-maps w ↦ sym (changed_beyond (λ h. uploaded h (c.args.r.now, c.args.bytes.now)) c.args.store c.args.maps.now w.if-store-maps.true)
  | then-store-maps-via-else-store-maps+then-not-is_valid w ↦ sym (not_taken c.args.maps.now c.args.store (c.args.r.now, c.args.bytes.now) (sym w.is_valid.ensures ∙ w.if-not-is_valid.true))
]

pub returns-clause-ok : goal.returns-clause-ok
returns-clause-ok c =
    let blob : Blob = (c.args.r.now, c.args.bytes.now) in
    let here = get_or c.args.maps.now c.args.store c.index-maps-store.result in
    given_ok c.keep.result (λ h. uploaded h blob) c.args.maps.now c.args.store c.keep.new.held c.index-maps-store.result (omega (arith, c.if-store-maps.false))
    (given_as c.keep.result c.keep.new.held _ (uploaded here blob) c.keep.ensures.ok (taken blob here (sym c.is_valid.ensures ∙ c.if-not-is_valid.false)))
