use Rattle.std.proofs.Common.{◌≡◌, length}
use Rattle.httparse.specs.Grammar.{skip_ows}
use Rattle.http_wire.proofs.closing.trim_start.Given as goal

abbrev pub invariant-spaces : goal.invariant-spaces
invariant-spaces l = skip_ows l.bytes ≡ skip_ows l.fn.bytes

abbrev pub decreases-spaces : goal.decreases-spaces
decreases-spaces l = length l.bytes
