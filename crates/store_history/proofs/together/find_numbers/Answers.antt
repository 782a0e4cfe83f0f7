use Rattle.std.proofs.Common.{Ok, Err, ◌∙◌, sym, ap, arith}
use Rattle.pack_store.proofs.Still.{still_then}
use Rattle.store_history.specs.Together.{StandsAt, first_in}
use Rattle.store_history.proofs.Several.{find_numbers_adds, from_none, next_adds, stood_all}
use Rattle.store_history.proofs.together.find_numbers.Goals as goal

pub returns-in-Ok-Some-clause-adds : goal.returns-in-Ok-Some-clause-adds
returns-in-Ok-Some-clause-adds g c made =
    let here = c.find_number.ensures in
    next_adds g.D.Disk made c.args.store.now c.with_next.new.store c.args.number c.find_number.result c.in-Ok-Some.found
    c.with_next.result (c.in-Ok-Some.is ∙ ap Ok c.in-Ok-Some.field-0-is)
    here.placed here.bytes here.own here.damaged
    (still_then g.D.Disk g.met.D.Disk.counts_now g.met.D.Disk.only_now c.args.store.now c.find_number.new.self
    c.with_next.new.store here.stays c.with_next.ensures.stays)
    (let first = here.later in let more = c.with_next.ensures.later in omega (arith, first, more))
    c.with_next.ensures.first c.with_next.ensures.refused (stood_all g.D.Disk c.args.store.now c.find_number.new.self
    c.args.number c.with_next.result here.stays c.with_next.ensures.stand)

pub returns-in-Ok-None-clause-adds : goal.returns-in-Ok-None-clause-adds
returns-in-Ok-None-clause-adds g c made =
    let here = c.find_number.ensures in
    find_numbers_adds g.D.Disk made c.args.store.now c.find_number.new.self c.args.number c.find_number.result
    (Ok c.empty.result) here.none.0 here.placed here.bytes here.own here.damaged
    here.stays here.failed here.later
    (ap (λ bs. first_in (Ok bs)) c.empty.ensures ∙ sym (c.in-Ok-None.is ∙ ap Ok c.in-Ok-None.field-0-is))
    (from_none (StandsAt g.D.Disk c.args.store.now) c.args.number c.empty.result c.empty.ensures)

pub returns-in-Err-clause-adds : goal.returns-in-Err-clause-adds
returns-in-Err-clause-adds g c made =
    let here = c.find_number.ensures in
    find_numbers_adds g.D.Disk made c.args.store.now c.find_number.new.self c.args.number c.find_number.result
    (Err c.in-Err.fault) here.none.0 here.placed here.bytes here.own here.damaged
    here.stays here.failed here.later (sym c.in-Err.is) tt
