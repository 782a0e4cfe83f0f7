use Rattle.std.proofs.Common.{◌≡◌, drop, map}
use Rattle.httparse.specs.Spans.{header_bytes}
use Rattle.http_admission.specs.Admissions.{said_length}
use Rattle.http_admission.proofs.browsers.said_length.Given as goal

-- the headers that are left say what all say
abbrev pub invariant-loop-header : goal.invariant-loop-header
invariant-loop-header l = said_length (map (header_bytes l.text) l.headers) ≡ said_length (map (header_bytes l.text) (drop l.header-index l.headers))
