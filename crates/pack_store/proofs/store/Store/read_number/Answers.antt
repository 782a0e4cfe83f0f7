use Rattle.std.proofs.Common.{◌≡◌, Some, IfOk, sym, subst, ◌∙◌, ap}
use Rattle.blobref.specs.Blobref.{IsOwnRef}
use Rattle.pack_store.specs.Reading.{IsDamage, entry_at, ref_at}
use Rattle.pack_store.specs.Finding.{checked}
use Rattle.pack_store.proofs.Finding.{checked_named, checked_damage, ok_weaker, ref_of_entry}
use Rattle.pack_store.proofs.store.Store.read_number.Goals as goal

pub returns-clause-named : goal.returns-clause-named
returns-clause-named g c =
    let rows = c.args.self.now.rows in
    let b = c.in_ok-found.found in
    let at = c.in_ok-found.ensures.placed in
    let named : ref_at c.args.number rows ≡ Some b.r = ref_of_entry c.args.number rows b.r at.size at.asked_for in
    subst (λ result. IfOk result (λ a. (ref_at c.args.number rows ≡ Some a.0) × IsOwnRef a.0 a.1))
    (sym c.checked.ensures)
    (ok_weaker (checked b) (λ a h. (named ∙ ap (λ x. Some x.0) (sym h.0), h.1)) (checked_named b))

pub returns-clause-damaged : goal.returns-clause-damaged
returns-clause-damaged g c =
    let asked = entry_at c.args.number c.args.self.now.rows in
    let told = g.D.Disk.packs c.args.self.now.disk in
    subst (IsDamage asked told) (sym c.checked.ensures)
    (checked_damage asked told c.in_ok-found.found c.in_ok-found.ensures.placed c.in_ok-found.ensures.own)
