use Rattle.std.proofs.Common.{◌∙◌}
use Rattle.std.proofs.lemmas.Result.{err_from_is_err_and}
use Rattle.share_gate.proofs.Reading.{fault_of, fault_since, read_nothing, read_then}
use Rattle.share_gate.proofs.Rows.{item_among, links_more, links_none}
use Rattle.share_gate.proofs.links.link_rows.Goals as goal

pub loop-r-init : goal.loop-r-init
loop-r-init g c = record {
  links = λ held is. links_none held c.empty-rows.result c.empty-rows.ensures;
  read = read_nothing g.B.Shelf g.met.B.Shelf.puts_nothing c.args.shelf.now;
}

pub loop-r-preserved : goal.loop-r-preserved
loop-r-preserved g c = record {
  links = λ held is.
      links_more c.args.refs.now c.loop-r.r-index c.r-item.result c.loop-r-test.true c.r-item.is held c.loop-r.rows
      c.put_links.new.rows (c.loop-r.invariant.links held is)
      (c.in_ok-put_links.ensures.ok held (c.loop-r.invariant.read.told ∙ is));
  read = read_then g.B.Shelf g.met.B.Shelf.puts_then c.args.shelf.now c.loop-r.shelf c.put_links.new.shelf
      c.loop-r.invariant.read c.in_ok-put_links.ensures.read;
}

pub returns-in_err-put_links-clause-err : goal.returns-in_err-put_links-clause-err
returns-in_err-put_links-clause-err g c =
    let shelf = g.B.Shelf in
    let p = err_from_is_err_and c.from_residual.result c.from_residual.ensures.1 in
    let a = c.args.shelf.now in
    let b = c.loop-r.shelf in
    let d = c.put_links.new.shelf in
    let refs = c.args.refs.now in
    let r = c.r-item.result in
    rw (p.1, p.2) (fault_since shelf a b d refs _ c.loop-r.invariant.read
    (fault_of (Unit {0}) (shelf.content b) (shelf.faults b) (shelf.faults d) r refs _
    (item_among refs c.loop-r.r-index r c.loop-r-test.true c.r-item.is) c.in_err-put_links.ensures.cause))

pub returns-in_err-put_links-clause-read : goal.returns-in_err-put_links-clause-read
returns-in_err-put_links-clause-read g c =
    read_then g.B.Shelf g.met.B.Shelf.puts_then c.args.shelf.now c.loop-r.shelf c.put_links.new.shelf
    c.loop-r.invariant.read c.in_err-put_links.ensures.read
