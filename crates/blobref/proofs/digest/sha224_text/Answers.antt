use Rattle.blobref.proofs.Spelled.{sha224_out}
use Rattle.blobref.proofs.digest.sha224_text.Goals as goal

pub returns : goal.returns
returns c = sha224_out c.args.digest.now c.encode_to_slice.new.output _ c.requires c.encode_to_slice.ensures.fits.1 c.encode_to_slice.ensures.written
