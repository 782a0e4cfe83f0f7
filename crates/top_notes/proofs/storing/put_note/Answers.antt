use Rattle.std.proofs.Common.{◌∙◌, ◌≤◌, ℕ, List, length, ap, sym, subst}
use Rattle.std.proofs.lemmas.Result.{err_from_is_err_and}
use Rattle.blobref.specs.Blobref.{ref_of}
use Rattle.pack_format.specs.Header.{max_size}
use Rattle.top_notes.proofs.Putting.{stops_first, stops_second, puts_both}
use Rattle.top_notes.proofs.storing.put_note.Goals as goal

pub put_blob-requires-clause-own : goal.put_blob-requires-clause-own
put_blob-requires-clause-own g c = c.requires.signer ∙ ap ref_of (sym c.as_slice.ensures)

pub put_blob-requires-clause-small : goal.put_blob-requires-clause-small
put_blob-requires-clause-small g c =
    subst (λ (b : List ℕ). length b ≤ max_size) (sym c.as_slice.ensures) c.requires.key_short

pub put_blob-requires-2-clause-own : goal.put_blob-requires-2-clause-own
put_blob-requires-2-clause-own g c = c.requires.named ∙ ap ref_of (sym c.as_slice-2.ensures)

pub put_blob-requires-2-clause-small : goal.put_blob-requires-2-clause-small
put_blob-requires-2-clause-small g c =
    subst (λ (b : List ℕ). length b ≤ max_size) (sym c.as_slice-2.ensures) c.requires.blob_short

pub returns-in_err-put_blob-clause-stopped : goal.returns-in_err-put_blob-clause-stopped
returns-in_err-put_blob-clause-stopped g c =
    let p = err_from_is_err_and c.from_residual.result c.from_residual.ensures.1 in
    rw (p.1, p.2) (stops_first g.D.Disk g.met.D.Disk.counts_now g.met.D.Disk.only_now c.args.note.now c.requires
    c.args.store.now c.as_slice.result.now c.as_slice.ensures c.put_blob.new.store _ c.in_err-put_blob.ensures.leaves
    c.in_err-put_blob.ensures.keeps c.in_err-put_blob.ensures.later)

pub returns-in_err-put_blob-2-clause-stopped : goal.returns-in_err-put_blob-2-clause-stopped
returns-in_err-put_blob-2-clause-stopped g c =
    let residual = c.from_residual-in_err-put_blob-2 in
    let p = err_from_is_err_and residual.result residual.ensures.1 in
    rw (p.1, p.2) (stops_second g.D.Disk g.met.D.Disk.counts_now g.met.D.Disk.only_now c.args.note.now c.requires
    c.args.store.now c.as_slice.result.now c.as_slice.ensures c.put_blob.new.store c.put_blob-2.new.store
    c.in_ok-put_blob.ensures.leaves c.in_ok-put_blob.ensures.later c.as_slice-2.result.now c.as_slice-2.ensures _
    c.in_err-put_blob-2.ensures.leaves c.in_err-put_blob-2.ensures.keeps c.in_err-put_blob-2.ensures.later)

pub returns-clause-put : goal.returns-clause-put
returns-clause-put g c =
    puts_both g.D.Disk g.met.D.Disk.counts_now g.met.D.Disk.only_now c.args.note.now c.requires c.args.store.now
    c.as_slice.result.now c.as_slice.ensures c.put_blob.new.store c.put_blob-2.new.store
    c.in_ok-put_blob.ensures.leaves c.in_ok-put_blob.ensures.later c.as_slice-2.result.now c.as_slice-2.ensures
    c.in_ok-put_blob-2.ensures.leaves
