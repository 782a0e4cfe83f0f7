use Rattle.std.proofs.Common.{◌≡◌, ◌∙◌, ◌≤◌, ℕ, List, true, length, ap, subst}
use Rattle.blobref.specs.Blobref.{ref_of}
use Rattle.claim_verify.specs.KeyName.{is_key_name}
use Rattle.pack_format.specs.Header.{max_size}
use Rattle.perkeep_lines.specs.Outputs.{ref_line}
use Rattle.top_notes.proofs.Signing.{key_short, sealed_as, signed_short}
use Rattle.top_notes.proofs.notes.signed_note.Goals as goal

pub returns : goal.returns
returns g c =
    let seals = g.V.Signer.seals c.args.keys.now in
    let is = sealed_as seals c.args.name.now c.args.payload.now c.sealed_by-sig.result c.sealed_by-sig.ensures.sig in
    let named = c.of-r.ensures ∙ ap ref_of (c.as_slice.ensures ∙ c.in_ok-blob.ensures.exact ∙ is) in
    record {
      key = c.requires.key;
      signer = c.requires.signer;
      blob = c.in_ok-blob.ensures.exact ∙ is;
      named = named;
      lined = c.in_ok-line.ensures ∙ ap ref_line named;
      can = record {
        sig = c.sealed_by-sig.result;
        made = c.sealed_by-sig.ensures.sig;
        bytes = c.sealed_by-sig.ensures.bytes;
        within = c.requires.short;
      };
      key_short = key_short c.args.name.now
          (subst (λ (n : List ℕ). is_key_name n ≡ true) c.bytes-name.ensures.text c.bytes-name.ensures.form);
      blob_short = subst (λ (b : List ℕ). length b ≤ max_size) is
          (signed_short c.args.payload.now c.sealed_by-sig.result c.sealed_by-sig.ensures.bytes c.requires.short);
    }
