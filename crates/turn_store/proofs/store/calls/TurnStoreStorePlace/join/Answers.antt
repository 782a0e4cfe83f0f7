use Rattle.std.proofs.Common.{◌≡◌, ◌∙◌, ◌+◌, refl, sym, ap, subst, length, true, Option}
use Rattle.histories.specs.Stores.{arrivals}
use Rattle.histories.proofs.Prefixes.{prefix_length}
use Rattle.histories.proofs.Standing.{arrivals_prefix}
use Rattle.turn_cell.specs.Seats.{about, seen}
use Rattle.turn_store.specs.declared.store.StoreAbout.{StoreAbout}
use Rattle.turn_store.specs.StoreAbout.{about_seen, is_legal_within}
use Rattle.turn_cell.proofs.Longer.{longer_keeps, longer_counts}
use Rattle.turn_store.proofs.Known.{held_as, longer_ahead}
use Rattle.turn_store.proofs.store.calls.TurnStoreStorePlace.join.Goals as goal

pub invariant_of-into-clause-legal : goal.invariant_of-into-clause-legal
invariant_of-into-clause-legal g c =
    let left = c.join.new.into in
    let one = c.args.into.now in
    let other = c.args.other in
    let join = c.join.ensures in
    longer_keeps (λ h. is_legal_within (about_seen (about left)) h ≡ true) (seen one.seat) (seen other.seat) (seen left) join.longer
    (subst (λ (a : Option StoreAbout). is_legal_within (about_seen a) (seen one.seat) ≡ true) (sym join.about) one.legal)
    (subst (λ (a : Option StoreAbout). is_legal_within (about_seen a) (seen other.seat) ≡ true) (join.same ∙ sym join.about) other.legal)

pub invariant_of-into-clause-counted : goal.invariant_of-into-clause-counted
invariant_of-into-clause-counted g c =
    let one = c.args.into.now in
    let other = c.args.other in
    longer_counts (λ h. length (arrivals h)) (λ x y p. prefix_length (arrivals x) (arrivals y) (arrivals_prefix x y p))
    (seen one.seat) (seen other.seat) (seen c.join.new.into) one.count other.count c.max-into.result c.max-into.ensures c.join.ensures.longer one.counted other.counted

pub invariant_of-into-clause-arrived : goal.invariant_of-into-clause-arrived
invariant_of-into-clause-arrived g c =
    let left = c.join.new.into in
    let one = c.args.into.now in
    let tells = (about_seen (about one.seat)).tells in
    held_as tells (about_seen (about left)).tells (arrivals (seen left)) _ (one.ahead.last + 1) _ one.ahead.blobs.items (ap (λ (a : Option StoreAbout). (about_seen a).tells) c.join.ensures.about) refl refl
    (longer_ahead tells (seen one.seat) (seen c.args.other.seat) (seen left) (one.ahead.last + 1) one.ahead.blobs.items c.join.ensures.longer one.arrived)
