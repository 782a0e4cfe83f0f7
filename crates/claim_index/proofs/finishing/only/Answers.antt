-- A list of one is its first element.
use Rattle.std.proofs.Common.{◌∙◌, sym}
use Rattle.claim_index.proofs.Members.{none_empty, one_long}
use Rattle.claim_index.proofs.finishing.only.Goals as goal

pub returns : goal.returns
returns c = (
  one_long c.args.deletes.now c.index-deletes-0.result c.if-deletes-ne1.false c.index-deletes-0.is,
  none_empty c.args.concerned.now (sym c.is_empty.ensures ∙ c.if-not-is_empty.false),
)
