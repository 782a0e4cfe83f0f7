use Rattle.std.proofs.Common.{sym, ◌∙◌, subst}
use Rattle.pack_store.specs.Archive.{Archive}
use Rattle.pack_store.specs.Packs.{HeldByAll}
use Rattle.pack_store.proofs.Standing.{arrived_held}
use Rattle.pack_store.proofs.store.Store.early_answer.Goals as goal

pub returns-in-Some-clause-held : goal.returns-in-Some-clause-held
returns-in-Some-clause-held g c =
    let disk = g.D.Disk in
    subst (λ (s : Archive _). HeldByAll (disk.images s.disk) c.args.r.now) c.self.view_is
    (arrived_held disk g.met.D.Disk.reads g.met.D.Disk.tells c.self.inside.disk c.self.inside.rows.items c.args.r.now c.in-Some.number c.self.invariant.kept
    (sym (c.self.invariant.placed c.args.r.now) ∙ sym c.number.ensures ∙ c.in-Some.is))
