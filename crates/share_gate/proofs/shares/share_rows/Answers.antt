use Rattle.std.proofs.Common.{Option, ◌∙◌}
use Rattle.std.proofs.lemmas.Result.{err_from_is_err_and}
use Rattle.share_gate.specs.declared.gate.ShareRow.{ShareRow}
use Rattle.share_gate.proofs.Reading.{fault_of, fault_since, read_nothing, read_then}
use Rattle.share_gate.proofs.Rows.{item_among, shares_more, shares_none}
use Rattle.share_gate.proofs.shares.share_rows.Goals as goal

pub loop-r-init : goal.loop-r-init
loop-r-init g c = record {
  shares = λ held is. shares_none held (g.V.Verifier.accepts c.args.keys.now) c.empty-rows.result c.empty-rows.ensures;
  read = read_nothing g.B.Shelf g.met.B.Shelf.puts_nothing c.args.shelf.now;
}

pub loop-r-preserved : goal.loop-r-preserved
loop-r-preserved g c = record {
  shares = λ held is.
      shares_more c.args.refs.now c.loop-r.r-index c.r-item.result c.loop-r-test.true c.r-item.is held
      (g.V.Verifier.accepts c.args.keys.now) c.loop-r.rows c.put_row.new.rows c.in_ok-row.row
      (c.loop-r.invariant.shares held is) (c.in_ok-row.ensures.ok held (c.loop-r.invariant.read.told ∙ is))
      c.in_ok-put_row.ensures;
  read = read_then g.B.Shelf g.met.B.Shelf.puts_then c.args.shelf.now c.loop-r.shelf c.row_at.new.shelf
      c.loop-r.invariant.read c.in_ok-row.ensures.read;
}

pub returns-in_err-row-clause-err : goal.returns-in_err-row-clause-err
returns-in_err-row-clause-err g c =
    let shelf = g.B.Shelf in
    let p = err_from_is_err_and c.from_residual.result c.from_residual.ensures.1 in
    let a = c.args.shelf.now in
    let b = c.loop-r.shelf in
    let d = c.row_at.new.shelf in
    let refs = c.args.refs.now in
    let r = c.r-item.result in
    rw (p.1, p.2) (fault_since shelf a b d refs _ c.loop-r.invariant.read
    (fault_of (Option ShareRow) (shelf.content b) (shelf.faults b) (shelf.faults d) r refs _
    (item_among refs c.loop-r.r-index r c.loop-r-test.true c.r-item.is) c.in_err-row.ensures.cause))

pub returns-in_err-row-clause-read : goal.returns-in_err-row-clause-read
returns-in_err-row-clause-read g c =
    read_then g.B.Shelf g.met.B.Shelf.puts_then c.args.shelf.now c.loop-r.shelf c.row_at.new.shelf
    c.loop-r.invariant.read c.in_err-row.ensures.read

pub returns-in_err-put_row-clause-read : goal.returns-in_err-put_row-clause-read
returns-in_err-put_row-clause-read g c =
    read_then g.B.Shelf g.met.B.Shelf.puts_then c.args.shelf.now c.loop-r.shelf c.row_at.new.shelf
    c.loop-r.invariant.read c.in_ok-row.ensures.read
