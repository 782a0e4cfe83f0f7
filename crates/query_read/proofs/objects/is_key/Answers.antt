use Rattle.std.proofs.Common.{◌∙◌}
use Rattle.std.specs.Str.{bytes_eq}
use Rattle.query_read.proofs.Keys.{any_names}
use Rattle.query_read.proofs.objects.is_key.Goals as goal

pub returns : goal.returns
returns c = c.among.ensures ∙ any_names (bytes_eq c.args.key.now) c.args.keys.now
