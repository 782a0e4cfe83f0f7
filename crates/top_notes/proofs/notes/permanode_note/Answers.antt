use Rattle.std.proofs.Common.{◌≡◌, ◌∙◌, ◌+◌, true, ◌≤◌, ℕ, List, length, sym, subst}
use Rattle.blobref.specs.Blobref.{is_blobref}
use Rattle.blobref.proofs.Digests.{is_blobref-ref_of}
use Rattle.schema_write.specs.Laws.{longest_schema, signature_length}
use Rattle.schema_write.proofs.ClaimsRead.{permanode_fits}
use Rattle.top_notes.proofs.notes.permanode_note.Goals as goal

pub signed_note-requires-clause-short : goal.signed_note-requires-clause-short
signed_note-requires-clause-short g c =
    subst (λ (p : List ℕ). length p + signature_length ≤ longest_schema)
    (sym (c.as_slice-2.ensures ∙ c.in_ok-payload.ensures.exact))
    (permanode_fits c.of-signer.result c.args.random.now
    (subst (λ (r : List ℕ). is_blobref r ≡ true) (sym c.of-signer.ensures) (is_blobref-ref_of _)) c.requires.random)
