use Rattle.std.proofs.Common.{◌∙◌}
use Rattle.blob_routes.proofs.Digits.{parsed}
use Rattle.blob_routes.proofs.numbers.parsed.Goals as goal

pub returns : goal.returns
returns c =
    c.ok.ensures.value
    ∙ parsed c.args.digits.now c.parse.result c.parse.ensures.value.0 c.requires.digits c.requires.some c.requires.few
