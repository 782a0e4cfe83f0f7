use Rattle.std.proofs.Common.{◌≡◌, length, sym, ap, subst, ◌∙◌, rules}
use Rattle.replica_ring.specs.Rings.{AreAllValid}
use Rattle.replica_ring.proofs.Stepping.{valid_then, as_many, put_back}
use Rattle.replica_ring.proofs.ring.Ring.step.Goals as goal

pub invariant_of-self : goal.invariant_of-self
invariant_of-self c =
    let items = c.self.inside.maps.items in
    let old = c.as_mut_slice.result.now in
    let new = c.step_maps.new.maps in
    let same : old ≡ items = c.as_mut_slice.ensures.value in
    let count : c.self.inside.maps.len ≡ length items = search rules in
    let size : length new ≡ length items = as_many c.step_maps.result old new c.args.event.now c.step_maps.ensures.ok c.step_maps.ensures.err ∙ ap length same in
    subst AreAllValid (sym (put_back c.self.inside.maps.len new items count size))
    (valid_then c.step_maps.result old new c.args.event.now c.step_maps.ensures.ok c.step_maps.ensures.err (subst AreAllValid (sym same) c.self.invariant))
