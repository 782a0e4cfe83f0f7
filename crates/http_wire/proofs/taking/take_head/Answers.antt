use Rattle.std.proofs.Common.{◌≡◌, ℕ, List, [], length, take, sym, ap, ◌∙◌, subst, Err, Ok, arith}
use Rattle.http_wire.specs.declared.line_state.LineState.TheVariants.{Start}
use Rattle.http_wire.specs.Stream.{stream, Passed}
use Rattle.http_wire.specs.Wires.{Request, HeadEnds}
use Rattle.http_wire.specs.Heads.{IsHeadText, HeadSpec}
use Rattle.http_wire.proofs.Seams.{reached}
use Rattle.http_wire.proofs.Passing.{Passed-chain}
use Rattle.http_wire.proofs.taking.take_head.Goals as goal

pub keep-requires : goal.keep-requires
keep-requires g c =
    let fits = reached Start 16384 (length (take c.in_ok-n.n c.lines_end.new.ahead.bytes)) (take c.in_ok-n.n c.lines_end.new.ahead.bytes) c.in_ok-n.ensures.found in
    omega (arith, fits.1, ap (λ (xs : List ℕ). length (take c.in_ok-n.n xs)) c.as_slice.ensures)

pub returns-in-Ok-clause-ok : goal.returns-in-Ok-clause-ok
returns-in-Ok-clause-ok g c =
    let read = c.as_slice.ensures in
    let same : take c.in_ok-n.n c.lines_end.new.ahead.bytes ≡ c.keep.new.self = ap (take c.in_ok-n.n) (sym read) ∙ sym c.keep.ensures in (
      subst (λ (xs : List ℕ). Passed (g.S.Source.left c.args.source.now) (g.S.Source.left c.lines_end.new.source) c.args.ahead.now c.pass.new.self xs) same (Passed-chain _ _ _ _ _ _ [] _ c.in_ok-n.ensures.same (c.pass.ensures _)),
      subst IsHeadText same c.in_ok-n.ensures.found,
      subst (λ (xs : List ℕ). HeadSpec xs (Ok c.in-Ok.head)) (sym c.keep.ensures) c.in-Ok.ensures,
    )

pub returns-in-Err-clause-err : goal.returns-in-Err-clause-err
returns-in-Err-clause-err g c =
    let said = c.end_of_fault.ensures.says Request c.in_ok-n.n c.lines_end.new.ahead.bytes _ (c.in_ok-n.ensures.found, subst (λ (xs : List ℕ). HeadSpec (take c.in_ok-n.n xs) (Err c.in-Err.fault)) c.as_slice.ensures c.in-Err.ensures) in
    subst (λ (place : ℕ). HeadEnds (stream c.lines_end.new.ahead.bytes (g.S.Source.left c.lines_end.new.source)) place c.end_of_fault.result) c.taken-place.ensures said
