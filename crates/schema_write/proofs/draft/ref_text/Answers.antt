use Rattle.std.proofs.Common.{subst, sym}
use Rattle.std.specs.Str.{IsUtf8}
use Rattle.schema_write.proofs.Texts.{blobref_utf8}
use Rattle.schema_write.proofs.draft.ref_text.Goals as goal

pub as_text-requires : goal.as_text-requires
as_text-requires c = subst IsUtf8 (sym c.as_slice.ensures.text) (blobref_utf8 c.args.r.now c.requires)
