use Rattle.std.proofs.Common.{subst, sym, ◌∙◌}
use Rattle.std.proofs.lemmas.List.{with_items_is}
use Rattle.std.specs.List.{All}
use Rattle.store_ahead.specs.Ahead.{IsHeld}
use Rattle.store_ahead.proofs.Ahead.{kept_ahead}
use Rattle.store_ahead.proofs.store_ahead.StoreAheadPartShelf.look_ahead.Goals as goal

pub invariant_of-self : goal.invariant_of-self
invariant_of-self g c =
    let old = c.self.inside.store in
    let new = c.read_blobs-blobs.new.store in
    subst (All (IsHeld g.D.Disk new)) (sym (with_items_is c.truncate.new.self c.reverse.new.self (c.reverse.ensures.len ∙ c.as_mut_slice.ensures.len)))
    (kept_ahead g.D.Disk old new c.read_blobs-blobs.result.items c.deref.result.now c.truncate.new.self.items c.as_mut_slice.result.now c.reverse.new.self c.own_count-own.result
    c.read_blobs-blobs.ensures.stays c.deref.ensures.value c.truncate.ensures.items c.as_mut_slice.ensures.value
    c.read_blobs-blobs.ensures.stand c.own_count-own.ensures.named c.reverse.ensures.permutation)
