use Rattle.std.proofs.Common.{ap, ◌∙◌}
use Rattle.blobref.specs.Blobref.{spelled, sha1_name}
use Rattle.blobref.specs.Digits.{sha1_kept}
use Rattle.blobref.proofs.digest.sha1_ref.Goals as goal

pub returns : goal.returns
returns c =
    sha1_kept c.copy_from_slice.new.self c.copy_from_slice.ensures.len
    ∙ ap (spelled sha1_name) c.copy_from_slice.ensures.after
