use Rattle.std.proofs.Common.{◌≡◌, ◌<◌, length, slice_get, Some, IfOk, refl, sym, subst, ◌∙◌, ap}
use Rattle.std.specs.Option.{option_map}
use Rattle.std.proofs.lemmas.Option.{slice_get_read, slice_get-map}
use Rattle.pack_store.specs.declared.rows.Row.{Row}
use Rattle.pack_store.specs.Rows.{arrival_of}
use Rattle.pack_store.specs.Finding.{IsFound}
use Rattle.pack_store.proofs.Still.{still_sound}
use Rattle.pack_store.proofs.Finding.{ok_weaker}
use Rattle.pack_store.proofs.store.Store.found.Goals as goal

pub invariant_of-self : goal.invariant_of-self
invariant_of-self g c =
    let disk = g.D.Disk in
    let inside = c.self.inside in
    still_sound disk g.met.D.Disk.counts_now g.met.D.Disk.only_now inside.places inside.rows.items inside.limits inside.next inside.current inside.disk c.found_row.new.disk c.self.invariant c.found_row.ensures.stays

pub returns-clause-placed : goal.returns-clause-placed
returns-clause-placed g c =
    let rows_are = ap (λ s. s.rows) c.self.view_is in
    let at : slice_get c.args.self.now.rows c.args.number ≡ Some c.index.result.now = ap (λ rows. slice_get rows c.args.number) (sym rows_are) ∙ slice_get_read c.self.inside.rows.items (length c.self.inside.rows.items) c.args.number c.index.result.now refl (subst (λ rows. c.args.number < length rows) (sym rows_are) c.requires) c.index.ensures in
    let entry = slice_get-map (λ (row : Row). (row.r, row.size)) c.args.self.now.rows c.args.number ∙ ap (option_map (λ (row : Row). (row.r, row.size))) at in
    subst (λ asked. IfOk c.found_row.result (IsFound asked)) (sym entry) c.found_row.ensures.placed

pub returns-clause-bytes : goal.returns-clause-bytes
returns-clause-bytes g c =
    let rows_are = ap (λ s. s.rows) c.self.view_is in
    let at : slice_get c.args.self.now.rows c.args.number ≡ Some c.index.result.now = ap (λ rows. slice_get rows c.args.number) (sym rows_are) ∙ slice_get_read c.self.inside.rows.items (length c.self.inside.rows.items) c.args.number c.index.result.now refl (subst (λ rows. c.args.number < length rows) (sym rows_are) c.requires) c.index.ensures in
    ok_weaker c.found_row.result (λ b is held told.
    ap Some (is held (ap (λ s. g.D.Disk.packs s.disk) c.self.view_is ∙ told))
    ∙ sym (slice_get-map (arrival_of held) c.args.self.now.rows c.args.number ∙ ap (option_map (arrival_of held)) at))
    c.found_row.ensures.bytes
