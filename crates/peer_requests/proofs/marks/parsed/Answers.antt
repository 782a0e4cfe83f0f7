use Rattle.std.proofs.Common.{◌∙◌}
use Rattle.peer_requests.proofs.Digits.{parsed}
use Rattle.peer_requests.proofs.marks.parsed.Goals as goal

pub returns : goal.returns
returns c =
    c.ok.ensures.value
    ∙ parsed c.args.digits.now c.parse.result c.parse.ensures.value.0 c.requires.digits c.requires.eight
