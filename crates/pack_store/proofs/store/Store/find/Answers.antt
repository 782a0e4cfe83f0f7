use Rattle.std.proofs.Common.{sym, subst, ◌∙◌}
use Rattle.pack_store.specs.Rows.{arrival_of}
use Rattle.pack_store.specs.Finding.{IsFound}
use Rattle.pack_store.proofs.Numbers.{no_row_of}
use Rattle.pack_store.proofs.Looking.{number_below, number_entry, number_bytes}
use Rattle.pack_store.proofs.store.Store.find.Goals as goal

pub returns-in_default-clause-bytes : goal.returns-in_default-clause-bytes
returns-in_default-clause-bytes g c = λ held told.
    let none = sym c.number.ensures ∙ c.in_default.is in
    sym (no_row_of (λ row. (arrival_of held row).1) c.args.r.now c.args.self.now.rows none)

pub found-requires : goal.found-requires
found-requires g c =
    number_below c.args.r.now c.args.self.now.rows c.in-Some.number (sym c.number.ensures ∙ c.in-Some.is)

pub returns-clause-placed : goal.returns-clause-placed
returns-clause-placed g c =
    let is = sym c.number.ensures ∙ c.in-Some.is in
    let asked = number_entry c.args.r.now c.args.self.now.rows c.in-Some.number is in
    subst (λ asked. IsFound asked c.in_ok-found.found) asked c.in_ok-found.ensures.placed

pub returns-clause-bytes : goal.returns-clause-bytes
returns-clause-bytes g c = λ held told.
    let is = sym c.number.ensures ∙ c.in-Some.is in
    let b = c.in_ok-found.found in
    number_bytes c.args.r.now held c.args.self.now.rows c.in-Some.number (b.r, b.bytes) is
    (c.in_ok-found.ensures.bytes held told)
