use Rattle.std.proofs.Common.{◌∙◌, ◌≤◌, ◌+◌, ℕ, List, length, ap, sym, subst}
use Rattle.std.proofs.lemmas.Result.{err_from_is_err_and}
use Rattle.blobref.specs.Blobref.{ref_of}
use Rattle.schema_write.specs.Laws.{longest_schema, signature_length}
use Rattle.top_notes.proofs.Signing.{claim_refused, claim_signed}
use Rattle.top_notes.proofs.notes.claim_note.Goals as goal

pub signed_note-requires-clause-short : goal.signed_note-requires-clause-short
signed_note-requires-clause-short g c =
    subst (λ (p : List ℕ). length p + signature_length ≤ longest_schema) (sym c.as_slice-2.ensures)
    c.in_ok-payload.ensures.fits

pub signed_note-requires-clause-signer : goal.signed_note-requires-clause-signer
signed_note-requires-clause-signer g c =
    c.of-signer.ensures ∙ ap ref_of (c.as_slice.ensures ∙ c.in_ok-key.ensures.exact)

pub returns-in_err-payload-clause-refused : goal.returns-in_err-payload-clause-refused
returns-in_err-payload-clause-refused g c =
    let by = c.of-signer.ensures ∙ ap ref_of (c.as_slice.ensures ∙ c.in_ok-key.ensures.exact) in
    let residual = c.from_residual-in_err-payload in
    let p = err_from_is_err_and residual.result residual.ensures.1 in
    rw (p.1, p.2) (claim_refused c.args.name.now c.of-signer.result by c.args.date.now c.args.what.now _
    c.in_err-payload.ensures.fault)

pub returns-clause-note : goal.returns-clause-note
returns-clause-note g c =
    let by = c.of-signer.ensures ∙ ap ref_of (c.as_slice.ensures ∙ c.in_ok-key.ensures.exact) in
    claim_signed c.args.name.now c.of-signer.result by c.args.date.now c.args.what.now
    (g.V.Signer.seals c.args.keys.now) c.in_ok-payload.payload c.as_slice-2.result.now c.in_ok-note.note
    c.as_slice-2.ensures c.in_ok-payload.ensures.exact c.in_ok-note.ensures
