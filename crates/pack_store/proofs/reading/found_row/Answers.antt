use Rattle.std.proofs.Common.{sym, subst, ◌∙◌, ap}
use Rattle.blobref.specs.Blobref.{IsOwnRef}
use Rattle.pack_store.proofs.Rowing.{never_damaged}
use Rattle.pack_store.proofs.reading.found_row.Goals as goal

pub returns-clause-own : goal.returns-clause-own
returns-clause-own g c = λ held told.
    let row = c.args.row.now in
    let bytes = c.from_vec.ensures ∙ ap (λ a. a.1) (c.in_ok-bytes.ensures.bytes held told) in
    let reads = g.met.D.Disk.reads c.args.disk.now held told in
    subst (IsOwnRef row.r) (sym bytes)
    (never_damaged row held (g.D.Disk.images c.args.disk.now) reads (c.requires.kept held told))
