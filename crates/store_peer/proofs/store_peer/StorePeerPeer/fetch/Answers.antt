use Rattle.std.proofs.Common.{◌≡◌, ◌↔◌, [], Option, Some, None, Result, Ok, IfSome, List, ℕ, length, refl, subst, sym}
use Rattle.std.proofs.Common.{ap, ◌∙◌, ◌≤◌}
use Rattle.std.specs.Option.{ForSome}
use Rattle.blobref.specs.Blobref.{IsOwnRef}
use Rattle.edge_base.specs.Shelf.{max_blob}
use Rattle.edge_base.specs.declared.answers.GetFault.{GetFault}
use Rattle.pack_store.specs.declared.reading.UncheckedBlob.{UncheckedBlob}
use Rattle.pack_store.specs.Finding.{IsFound, bytes_found}
use Rattle.pack_store.specs.Reading.{entry_of}
use Rattle.pack_store.specs.Archive.{Archive}
use Rattle.pack_store.specs.Rows.{number_of}
use Rattle.pack_store.specs.StoreShelf.{PutsStore}
use Rattle.pack_store.proofs.PutRuns.{reading_puts_nothing}
use Rattle.store_peer.proofs.Answered.{not_found, absent, changed, whole}
use Rattle.store_peer.proofs.Contents.{found_by, found_small, checked_bytes}
use Rattle.store_peer.proofs.store_peer.StorePeerPeer.fetch.Goals as goal

pub returns-in-None-clause-found : goal.returns-in-None-clause-found
returns-in-None-clause-found g c =
    found_by g.D.Disk c.self.inside.store c.args.self.now c.args.r.now None c.self.view_is
    (λ held told. sym (ap bytes_found c.in-None.is) ∙ c.in-Ok.ensures.bytes held told)

pub returns-clause-found : goal.returns-clause-found
returns-clause-found g c =
    let bytes = checked_bytes c.in-Some.found c.in-Ok-checked.checked.0 c.in-Ok-checked.checked.1 (sym c.checked.ensures
    ∙ c.in-Ok-checked.is) in
    found_by g.D.Disk c.self.inside.store c.args.self.now c.args.r.now (Some c.in-Ok-checked.checked.1) c.self.view_is
    (λ held told. ap Some (sym bytes) ∙ sym (ap bytes_found c.in-Some.is) ∙ c.in-Ok.ensures.bytes held told)

pub returns-clause-small : goal.returns-clause-small
returns-clause-small g c =
    let rows = c.self.inside.store.rows in
    let bytes = checked_bytes c.in-Some.found c.in-Ok-checked.checked.0 c.in-Ok-checked.checked.1 (sym c.checked.ensures
    ∙ c.in-Ok-checked.is) in
    let placed = subst (λ (o : Option UncheckedBlob). IfSome o (IsFound (entry_of c.args.r.now rows))) c.in-Some.is
    c.in-Ok.ensures.placed in
    subst (λ (l : List ℕ). length l ≤ max_blob) bytes
    (found_small rows c.args.r.now c.in-Some.found c.arrivals_are_held.ensures.blobs placed)

pub returns-in-Err-checked-clause-nothing : goal.returns-in-Err-checked-clause-nothing
returns-in-Err-checked-clause-nothing g c =
    subst (λ (s : Archive g.row.D.Denot). PutsStore g.D.Disk s [] c.find.new.self) c.self.view_is
    (reading_puts_nothing g.D.Disk c.self.inside.store.limits g.met.D.Disk.counts_now g.met.D.Disk.only_now
    c.self.inside.store c.find.new.self c.in-Ok.ensures.stays)

pub returns-in-Err-clause-is : goal.returns-in-Err-clause-is
returns-in-Err-clause-is g c =
    rw (c.get_fault.ensures) (
    not_found g.D.Disk c.self.inside.store c.args.self.now c.find.new.self c.self.view_is c.args.r.now
    c.in-Err.ensures.stays c.in-Err.fault c.in-Err.ensures.none c.in-Err.ensures.damaged c.in-Err.ensures.failed)

pub returns-in-None-clause-is : goal.returns-in-None-clause-is
returns-in-None-clause-is g c =
    let s = c.self.inside.store in
    let none = subst (λ (o : Option UncheckedBlob). (◌≡◌ {A = Result (Option UncheckedBlob) GetFault} (Ok o) (Ok None))
    ↔ (number_of c.args.r.now s.rows ≡ None)) c.in-None.is c.in-Ok.ensures.none in
    absent g.D.Disk s c.args.self.now c.find.new.self c.self.view_is c.args.r.now c.in-Ok.ensures.stays none
    (found_by g.D.Disk s s c.args.r.now None refl (λ held told. sym (ap bytes_found c.in-None.is)
    ∙ c.in-Ok.ensures.bytes held told))

pub returns-in-Err-checked-clause-is : goal.returns-in-Err-checked-clause-is
returns-in-Err-checked-clause-is g c =
    let s = c.self.inside.store in
    let r = c.args.r.now in
    let b = c.in-Some.found in
    let placed = subst (λ (o : Option UncheckedBlob). IfSome o (IsFound (entry_of r s.rows))) c.in-Some.is
    c.in-Ok.ensures.placed in
    let own = subst (λ (o : Option UncheckedBlob). IfSome o (λ b. ForSome (g.D.Disk.packs s.disk)
    (λ held. IsOwnRef b.r b.bytes))) c.in-Some.is c.in-Ok.ensures.own in
    let none = subst (λ (o : Option UncheckedBlob). (◌≡◌ {A = Result (Option UncheckedBlob) GetFault} (Ok o) (Ok None))
    ↔ (number_of r s.rows ≡ None)) c.in-Some.is c.in-Ok.ensures.none in
    rw (c.get_fault-in-Err-checked.ensures) (
    changed g.D.Disk s c.args.self.now c.find.new.self c.self.view_is r c.in-Ok.ensures.stays b none placed own
    c.in-Err-checked.damage (sym c.checked.ensures ∙ c.in-Err-checked.is))

pub returns-clause-is : goal.returns-clause-is
returns-clause-is g c =
    let s = c.self.inside.store in
    let r = c.args.r.now in
    let b = c.in-Some.found in
    let a = c.in-Ok-checked.checked in
    let placed = subst (λ (o : Option UncheckedBlob). IfSome o (IsFound (entry_of r s.rows))) c.in-Some.is
    c.in-Ok.ensures.placed in
    let none = subst (λ (o : Option UncheckedBlob). (◌≡◌ {A = Result (Option UncheckedBlob) GetFault} (Ok o) (Ok None))
    ↔ (number_of r s.rows ≡ None)) c.in-Some.is c.in-Ok.ensures.none in
    let answered = sym c.checked.ensures ∙ c.in-Ok-checked.is in
    let bytes = checked_bytes b a.0 a.1 answered in
    whole g.D.Disk s c.args.self.now c.find.new.self c.self.view_is r c.in-Ok.ensures.stays b none placed a answered
    (found_by g.D.Disk s s r (Some a.1) refl (λ held told. ap Some (sym bytes) ∙ sym (ap bytes_found c.in-Some.is)
    ∙ c.in-Ok.ensures.bytes held told))
