use Rattle.std.proofs.Common.{◌≡◌, ◌<◌, ℕ, zero, suc, false, arith, sym, ◌∙◌, length}
use Rattle.std.specs.Bool.{◌==◌}
use Rattle.http_wire.proofs.Leading.{bad_first, bad_second}
use Rattle.http_wire.proofs.chunk_end.end_of.Goals as goal

some : (n : ℕ) → (n == 0) ≡ false → 0 < n
some zero e = cc e
some (suc n) e = omega arith

pub returns-then-bytes-ne13 : goal.returns-then-bytes-ne13
returns-then-bytes-ne13 c = bad_first c.args.bytes.now (some (length c.args.bytes.now) (sym c.is_empty.ensures ∙ c.if-is_empty.false)) c.if-bytes-ne13.true

pub returns-then-bytes-ne10 : goal.returns-then-bytes-ne10
returns-then-bytes-ne10 c =
    let any = some (length c.args.bytes.now) (sym c.is_empty.ensures ∙ c.if-is_empty.false) in
    bad_second c.args.bytes.now (omega (arith, any)) c.if-bytes-ne13.false c.if-bytes-ne10.true
