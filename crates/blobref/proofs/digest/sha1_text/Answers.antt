use Rattle.std.proofs.Common.{◌∙◌}
use Rattle.blobref.specs.Blobref.{sha1_name}
use Rattle.blobref.proofs.Spelled.{text_out}
use Rattle.blobref.proofs.digest.sha1_text.Goals as goal

pub returns : goal.returns
returns c =
    c.of.ensures ∙ text_out sha1_name c.args.digest.now c.encode_to_slice.new.output 20 _ c.requires c.encode_to_slice.ensures.fits.1 c.encode_to_slice.ensures.written
