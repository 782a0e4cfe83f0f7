use Rattle.std.proofs.Common.{◌≡◌, ◌++◌, ◌∙◌, ap, codes, length, rules}
use Rattle.hex.specs.Hex.{encode_lower}
use Rattle.schema_write.specs.Blobs.{signed}
use Rattle.schema_write.proofs.Texts.{signed_pieces}
use Rattle.schema_write.proofs.SignedRead.{signed_long}
use Rattle.schema_write.proofs.signing.signed.Goals as goal

pub returns-clause-exact : goal.returns-clause-exact
unfolding signed
returns-clause-exact c =
    let payload = c.args.payload.now in
    let digits = encode_lower c.args.sig.now in
    let pieces : c.from_vec.result ≡ ((payload ++ codes ",\"camliSig\":\"") ++ digits) ++ codes "\"}\n" =
    search rules in
    pieces ∙ signed_pieces payload digits

pub returns-clause-length : goal.returns-clause-length
returns-clause-length c = ap length (returns-clause-exact c) ∙ signed_long c.args.payload.now c.args.sig.now
    (c.told-sig, c.fits-sig)
