-- What was found of a head by where its parts lie.
use Rattle.std.specs.Prelude.{ℕ, ◌<◌, ◌≤◌, List, [], length}
use Rattle.httparse.specs.Grammar.{RequestHead, ReadsRequest}
use Rattle.httparse.specs.Spans.{IsRequestAt, IsRequestWithin}
use Rattle.httparse.specs.declared.spans.HeaderSpan.{HeaderSpan}
use Rattle.http_wire.specs.declared.judging.ParsedHead.{ParsedHead}
use Rattle.http_wire.specs.declared.judging.ParsedHead.TheVariants as parsed

abbrev pub IsParsed : List ℕ → ℕ → List HeaderSpan → ParsedHead → Type 0
IsParsed text room headers (parsed.Head r) = IsRequestWithin text headers r × ((h : RequestHead) × ReadsRequest text h [] × (length h.fields ≤ 64) × IsRequestAt text headers r h)
IsParsed text room headers parsed.TooMany = (h : RequestHead) × ReadsRequest text h [] × (64 < length h.fields)
IsParsed text room headers parsed.BadHead = (h : RequestHead) → ReadsRequest text h [] → room < length h.fields
