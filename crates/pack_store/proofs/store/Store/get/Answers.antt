use Rattle.std.proofs.Common.{ℕ, List, sym, subst, ◌∙◌}
use Rattle.blobref.specs.Blobref.{IsOwnRef}
use Rattle.pack_store.specs.Rows.{arrival_of}
use Rattle.pack_store.specs.Reading.{IsDamage}
use Rattle.pack_store.proofs.Held.{some_same}
use Rattle.pack_store.proofs.Numbers.{no_row_of}
use Rattle.pack_store.proofs.Looking.{number_below, number_entry, number_names, number_bytes}
use Rattle.pack_store.proofs.Damage.{damage_passed}
use Rattle.pack_store.proofs.store.Store.get.Goals as goal

pub returns-in_default-clause-bytes : goal.returns-in_default-clause-bytes
returns-in_default-clause-bytes g c = λ held told. sym (no_row_of (λ row. (arrival_of held row).1) c.args.r.now c.args.self.now.rows (sym c.number.ensures ∙ c.in_default.is))

pub read_number-requires : goal.read_number-requires
read_number-requires g c = number_below c.args.r.now c.args.self.now.rows c.in-Some.number (sym c.number.ensures ∙ c.in-Some.is)

pub returns-in_err-bytes-clause-damaged : goal.returns-in_err-bytes-clause-damaged
returns-in_err-bytes-clause-damaged g c =
    let asked = number_entry c.args.r.now c.args.self.now.rows c.in-Some.number (sym c.number.ensures ∙ c.in-Some.is) in
    subst (λ asked. IsDamage asked (g.D.Disk.packs c.args.self.now.disk) c.from_residual.result) asked
    (damage_passed (List ℕ) _ _ (g.D.Disk.packs c.args.self.now.disk) c.from_residual.result c.in_err-bytes.field-0.0 c.from_residual.ensures.1 c.in_err-bytes.ensures.damaged)

pub returns-clause-named : goal.returns-clause-named
returns-clause-named g c =
    let named = number_names c.args.r.now c.args.self.now.rows c.in-Some.number (sym c.number.ensures ∙ c.in-Some.is) in
    subst (λ q. IsOwnRef q c.in_ok-bytes.bytes) (some_same c.in_ok-bytes.field-0-0 c.args.r.now (sym c.in_ok-bytes.ensures.named.0 ∙ named)) c.in_ok-bytes.ensures.named.1

pub returns-clause-bytes : goal.returns-clause-bytes
returns-clause-bytes g c = λ held told.
    number_bytes c.args.r.now held c.args.self.now.rows c.in-Some.number (c.in_ok-bytes.field-0-0, c.in_ok-bytes.bytes) (sym c.number.ensures ∙ c.in-Some.is) (c.in_ok-bytes.ensures.bytes held told)
