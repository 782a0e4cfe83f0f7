use Rattle.std.proofs.Common.{◌≡◌, take, map}
use Rattle.std.specs.List.{list_any}
use Rattle.httparse.specs.Spans.{header_bytes}
use Rattle.http_wire.specs.Heads.{is_closing}
use Rattle.http_wire.proofs.closing.some_closing.Given as goal

-- whether one of the headers so far closes
abbrev pub invariant-loop-header : goal.invariant-loop-header
invariant-loop-header l = l.closes ≡ list_any is_closing (map (header_bytes l.text) (take l.header-index l.headers))
