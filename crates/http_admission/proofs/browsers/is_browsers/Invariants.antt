use Rattle.std.proofs.Common.{◌≡◌, take, map}
use Rattle.std.specs.List.{list_any}
use Rattle.httparse.specs.Spans.{header_bytes}
use Rattle.http_admission.specs.Admissions.{says_browser}
use Rattle.http_admission.proofs.browsers.is_browsers.Given as goal

-- what the headers so far say
abbrev pub invariant-loop-header : goal.invariant-loop-header
invariant-loop-header l = l.is ≡ list_any says_browser (map (header_bytes l.text) (take l.header-index l.headers))
