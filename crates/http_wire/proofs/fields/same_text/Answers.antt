use Rattle.std.proofs.Common.{map}
use Rattle.std.specs.Char.{to_ascii_lowercase}
use Rattle.http_wire.proofs.Values.{told_same}
use Rattle.http_wire.proofs.fields.same_text.Goals as goal

pub returns : goal.returns
returns c = told_same c.eq_ignore_ascii_case.result (map to_ascii_lowercase c.args.a.now) (map to_ascii_lowercase c.args.b.now) c.eq_ignore_ascii_case.ensures.test
