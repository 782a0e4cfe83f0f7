use Rattle.std.proofs.Common.{◌≡◌, ◌≤◌, List, length, ap, subst, ◌∙◌, arith}
use Rattle.std.specs.FinMap.{get}
use Rattle.edge_base.specs.Shelf.{Blobs}
use Rattle.replica_ring.specs.Rings.{at}
use Rattle.replica_ring.proofs.Changing.{at_or}
use Rattle.replica_ring.proofs.Stepping.{none_beyond}
use Rattle.replica_ring.proofs.ring.Ring.get.Goals as goal

pub returns-then-store-maps : goal.returns-then-store-maps
returns-then-store-maps c =
    let same : c.as_slice-maps.result.now ≡ c.args.self.now = c.as_slice-maps.ensures.value ∙ c.self.view_is in
    none_beyond c.args.self.now c.args.store c.args.r.now (subst (λ (l : List Blobs). length l ≤ c.args.store) same c.if-store-maps.true)

pub returns : goal.returns
returns c =
    let maps = c.as_slice-maps.result.now in
    let same : maps ≡ c.args.self.now = c.as_slice-maps.ensures.value ∙ c.self.view_is in
    c.get.ensures ∙ ap (λ m. get m c.args.r.now) (c.index-maps-store.is ∙ at_or maps c.args.store c.index-maps-store.result (omega (arith, c.if-store-maps.false)))
    ∙ ap (λ ms. get (at ms c.args.store) c.args.r.now) same
