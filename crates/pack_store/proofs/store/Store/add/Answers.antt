use Rattle.std.proofs.Common.{◌≡◌, ◌+◌, ◌-◌, ◌++◌, [], ◌∷◌, false, None, Some, length, sym, ap, subst, ◌∙◌, is_err, rules, arith, vec_len}
use Rattle.std.specs.FinMap.{insert}
use Rattle.pack_format.specs.Header.{header, record_under}
use Rattle.salvage_scan.proofs.Fronts.{length-record_under}
use Rattle.pack_store.specs.declared.rows.Row.{Row}
use Rattle.pack_store.specs.declared.rows.Current.{Current}
use Rattle.pack_store.specs.Archive.{Archive}
use Rattle.pack_store.specs.Putting.{early_answer_own, target, fill, next_after, row_after, current_after, Stores, Fails}
use Rattle.pack_store.proofs.Moments.{ok_told}
use Rattle.pack_store.proofs.Numbers.{are_bytes}
use Rattle.pack_store.proofs.Soundness.{not_settled, ends_failed, ends_stored, row_acknowledged}
use Rattle.pack_store.proofs.store.Store.add.Goals as goal

pub invariant_of-self-then-is_err-2 : goal.invariant_of-self-then-is_err-2
invariant_of-self-then-is_err-2 g c =
    let disk = g.D.Disk in
    let s : Archive _ = record { rows = c.self.inside.rows.items; limits = c.self.inside.limits; next = c.self.inside.next; current = c.self.inside.current; disk = c.self.inside.disk } in
    let bytes = c.args.bytes.now in
    let room = not_settled s c.args.r.now (length bytes) (ap (λ (t : Archive _). early_answer_own t c.args.r.now (length bytes)) c.self.view_is ∙ c.requires.open) in
    let places_is : c.take_room.new.places ≡ insert c.self.inside.places c.args.r.now (length s.rows) = ok_told c.take_room.result (sym c.is_err.ensures.value ∙ c.if-is_err.false) c.take_room.ensures.ok in
    let pack_is : c.end-end.result.pack ≡ target s = c.end-end.ensures.pack ∙ ap (λ (t : Archive _). target t) (sym c.self.view_is) in
    let next_is : c.end-end.result.next ≡ next_after s = c.end-end.ensures.next ∙ ap (λ (t : Archive _). next_after t) (sym c.self.view_is) in
    (ends_failed disk g.met.D.Disk.reads g.met.D.Disk.tells c.self.inside.places c.take_room.new.places c.remove.new.self s c.write_blob.new.disk c.args.r.now
    c.take_room.new.rows.items c.end-end.result.pack c.end-end.result.next c.self.invariant room.1 room.2 c.take_room.ensures.rows places_is c.remove.ensures pack_is next_is c.write_blob.ensures.told c.write_blob.ensures.rows).0

pub returns-then-is_err-2-clause-leaves : goal.returns-then-is_err-2-clause-leaves
returns-then-is_err-2-clause-leaves g c =
    let disk = g.D.Disk in
    let s : Archive _ = record { rows = c.self.inside.rows.items; limits = c.self.inside.limits; next = c.self.inside.next; current = c.self.inside.current; disk = c.self.inside.disk } in
    let bytes = c.args.bytes.now in
    let room = not_settled s c.args.r.now (length bytes) (ap (λ (t : Archive _). early_answer_own t c.args.r.now (length bytes)) c.self.view_is ∙ c.requires.open) in
    let places_is : c.take_room.new.places ≡ insert c.self.inside.places c.args.r.now (length s.rows) = ok_told c.take_room.result (sym c.is_err.ensures.value ∙ c.if-is_err.false) c.take_room.ensures.ok in
    let pack_is : c.end-end.result.pack ≡ target s = c.end-end.ensures.pack ∙ ap (λ (t : Archive _). target t) (sym c.self.view_is) in
    let next_is : c.end-end.result.next ≡ next_after s = c.end-end.ensures.next ∙ ap (λ (t : Archive _). next_after t) (sym c.self.view_is) in
    let new : Archive _ = record { rows = c.take_room.new.rows.items; limits = c.self.inside.limits; next = c.end-end.result.next; current = None; disk = c.write_blob.new.disk } in
    subst (λ (t : Archive _). Fails disk t new) c.self.view_is (ends_failed disk g.met.D.Disk.reads g.met.D.Disk.tells c.self.inside.places c.take_room.new.places c.remove.new.self s c.write_blob.new.disk c.args.r.now
    c.take_room.new.rows.items c.end-end.result.pack c.end-end.result.next c.self.invariant room.1 room.2 c.take_room.ensures.rows places_is c.remove.ensures pack_is next_is c.write_blob.ensures.told c.write_blob.ensures.rows).1

pub overflow_sub-header : goal.overflow_sub-header
overflow_sub-header g c =
    let bytes = c.args.bytes.now in
    let long : length c.in-Ok.record.items ≡ length (record_under c.args.r.now bytes) = ap length c.in-Ok.ensures in
    let count : vec_len c.in-Ok.record ≡ length c.in-Ok.record.items = search rules in
    omega (arith, c.len.ensures, count, long, length-record_under c.args.r.now bytes)

pub invariant_of-self-2 : goal.invariant_of-self-2
invariant_of-self-2 g c =
    let disk = g.D.Disk in
    let s : Archive _ = record { rows = c.self.inside.rows.items; limits = c.self.inside.limits; next = c.self.inside.next; current = c.self.inside.current; disk = c.self.inside.disk } in
    let bytes = c.args.bytes.now in
    let octets = are_bytes bytes (λ i. let fits = c.type_inv.bytes i in omega arith) in
    let room = not_settled s c.args.r.now (length bytes) (ap (λ (t : Archive _). early_answer_own t c.args.r.now (length bytes)) c.self.view_is ∙ c.requires.open) in
    let places_is : c.take_room.new.places ≡ insert c.self.inside.places c.args.r.now (length s.rows) = ok_told c.take_room.result (sym c.is_err.ensures.value ∙ c.if-is_err.false) c.take_room.ensures.ok in
    let pack_is : c.end-end.result.pack ≡ target s = c.end-end.ensures.pack ∙ ap (λ (t : Archive _). target t) (sym c.self.view_is) in
    let next_is : c.end-end.result.next ≡ next_after s = c.end-end.ensures.next ∙ ap (λ (t : Archive _). next_after t) (sym c.self.view_is) in
    let size_is : c.end-end.result.size ≡ fill s = c.end-end.ensures.size ∙ ap (λ (t : Archive _). fill t) (sym c.self.view_is) in
    let fine : is_err c.write_blob.result ≡ false = sym c.is_err-2.ensures.value ∙ c.if-is_err-2.false in
    let long : length c.in-Ok.record.items ≡ length (record_under c.args.r.now bytes) = ap length c.in-Ok.ensures in
    let count : vec_len c.in-Ok.record ≡ length c.in-Ok.record.items = search rules in
    let at_is : c.end-end.result.size + (c.len.result - length bytes) ≡ fill s + length (header c.args.r.now (length bytes)) = omega (arith, size_is, c.len.ensures, count, long, length-record_under c.args.r.now bytes) in
    let row : Row = record { r = c.args.r.now; pack = c.end-end.result.pack; at = c.end-end.result.size + (c.len.result - length bytes); size = length bytes } in
    let row_is : row ≡ row_after s c.args.r.now bytes = λ i. record { r = c.args.r.now; pack = pack_is i; at = at_is i; size = length bytes } in
    let grown : c.end-end.result.size + c.len-2.result ≡ fill s + length (record_under c.args.r.now bytes) = omega (arith, size_is, c.len-2.ensures, count, long) in
    let current : Current = record { pack = c.end-end.result.pack; size = c.end-end.result.size + c.len-2.result } in
    let current_is : current ≡ current_after s c.args.r.now bytes = λ i. record { pack = pack_is i; size = grown i } in
    let rows_is : c.push_row.new.rows.items ≡ s.rows ++ row ∷ [] = c.push_row.ensures ∙ ap (λ rows. rows ++ row ∷ []) c.take_room.ensures.rows in
    (ends_stored disk g.met.D.Disk.reads g.met.D.Disk.tells c.self.inside.places c.take_room.new.places s c.write_blob.new.disk c.args.r.now bytes
    c.push_row.new.rows.items row current c.end-end.result.pack c.end-end.result.size c.end-end.result.next c.requires.own room.0 octets c.self.invariant room.1 room.2 rows_is row_is current_is places_is pack_is size_is next_is
    c.write_blob.ensures.told (ok_told c.write_blob.result fine c.write_blob.ensures.added) (ok_told c.write_blob.result fine c.write_blob.ensures.clean) (ok_told c.write_blob.result fine c.write_blob.ensures.row) c.write_blob.ensures.rows).0

pub returns-clause-leaves : goal.returns-clause-leaves
returns-clause-leaves g c =
    let disk = g.D.Disk in
    let s : Archive _ = record { rows = c.self.inside.rows.items; limits = c.self.inside.limits; next = c.self.inside.next; current = c.self.inside.current; disk = c.self.inside.disk } in
    let bytes = c.args.bytes.now in
    let octets = are_bytes bytes (λ i. let fits = c.type_inv.bytes i in omega arith) in
    let room = not_settled s c.args.r.now (length bytes) (ap (λ (t : Archive _). early_answer_own t c.args.r.now (length bytes)) c.self.view_is ∙ c.requires.open) in
    let places_is : c.take_room.new.places ≡ insert c.self.inside.places c.args.r.now (length s.rows) = ok_told c.take_room.result (sym c.is_err.ensures.value ∙ c.if-is_err.false) c.take_room.ensures.ok in
    let pack_is : c.end-end.result.pack ≡ target s = c.end-end.ensures.pack ∙ ap (λ (t : Archive _). target t) (sym c.self.view_is) in
    let next_is : c.end-end.result.next ≡ next_after s = c.end-end.ensures.next ∙ ap (λ (t : Archive _). next_after t) (sym c.self.view_is) in
    let size_is : c.end-end.result.size ≡ fill s = c.end-end.ensures.size ∙ ap (λ (t : Archive _). fill t) (sym c.self.view_is) in
    let fine : is_err c.write_blob.result ≡ false = sym c.is_err-2.ensures.value ∙ c.if-is_err-2.false in
    let long : length c.in-Ok.record.items ≡ length (record_under c.args.r.now bytes) = ap length c.in-Ok.ensures in
    let count : vec_len c.in-Ok.record ≡ length c.in-Ok.record.items = search rules in
    let at_is : c.end-end.result.size + (c.len.result - length bytes) ≡ fill s + length (header c.args.r.now (length bytes)) = omega (arith, size_is, c.len.ensures, count, long, length-record_under c.args.r.now bytes) in
    let row : Row = record { r = c.args.r.now; pack = c.end-end.result.pack; at = c.end-end.result.size + (c.len.result - length bytes); size = length bytes } in
    let row_is : row ≡ row_after s c.args.r.now bytes = λ i. record { r = c.args.r.now; pack = pack_is i; at = at_is i; size = length bytes } in
    let grown : c.end-end.result.size + c.len-2.result ≡ fill s + length (record_under c.args.r.now bytes) = omega (arith, size_is, c.len-2.ensures, count, long) in
    let current : Current = record { pack = c.end-end.result.pack; size = c.end-end.result.size + c.len-2.result } in
    let current_is : current ≡ current_after s c.args.r.now bytes = λ i. record { pack = pack_is i; size = grown i } in
    let rows_is : c.push_row.new.rows.items ≡ s.rows ++ row ∷ [] = c.push_row.ensures ∙ ap (λ rows. rows ++ row ∷ []) c.take_room.ensures.rows in
    let new : Archive _ = record { rows = c.push_row.new.rows.items; limits = c.self.inside.limits; next = c.end-end.result.next; current = Some current; disk = c.write_blob.new.disk } in
    subst (λ (t : Archive _). Stores disk t new c.args.r.now bytes) c.self.view_is (ends_stored disk g.met.D.Disk.reads g.met.D.Disk.tells c.self.inside.places c.take_room.new.places s c.write_blob.new.disk c.args.r.now bytes
    c.push_row.new.rows.items row current c.end-end.result.pack c.end-end.result.size c.end-end.result.next c.requires.own room.0 octets c.self.invariant room.1 room.2 rows_is row_is current_is places_is pack_is size_is next_is
    c.write_blob.ensures.told (ok_told c.write_blob.result fine c.write_blob.ensures.added) (ok_told c.write_blob.result fine c.write_blob.ensures.clean) (ok_told c.write_blob.result fine c.write_blob.ensures.row) c.write_blob.ensures.rows).1

pub returns-clause-acknowledged : goal.returns-clause-acknowledged
returns-clause-acknowledged g c =
    let disk = g.D.Disk in
    let bytes = c.args.bytes.now in
    let fine : is_err c.write_blob.result ≡ false = sym c.is_err-2.ensures.value ∙ c.if-is_err-2.false in
    row_acknowledged disk g.met.D.Disk.reads g.met.D.Disk.tells c.write_blob.new.disk _ bytes (ok_told c.write_blob.result fine c.write_blob.ensures.row)
