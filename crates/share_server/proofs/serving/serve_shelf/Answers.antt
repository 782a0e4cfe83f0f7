use Rattle.std.proofs.Common.{◌≡◌, true, false, sym, subst, rules}
use Rattle.share_gate.proofs.Reading.{read_then}
use Rattle.share_server.specs.Serving.{Ends}
use Rattle.share_server.proofs.Ending.{gate_fault}
use Rattle.share_server.proofs.serving.serve_shelf.Goals as goal

pub returns-in-Err-clause-ends : goal.returns-in-Err-clause-ends
returns-in-Err-clause-ends g c =
    let accepted = g.L.Listener.accepted c.args.listener.now in
    let faults = g.L.Listener.faults c.args.listener.now in
    let told = g.B.Shelf.content c.args.shelf.now in
    let before = g.B.Shelf.faults c.args.shelf.now in
    let now = g.B.Shelf.faults c.gate_of.new.shelf in
    subst (Ends c.args.connections accepted accepted faults faults told before now) (sym c.from.ensures)
    (gate_fault told before now accepted faults c.args.connections c.in-Err.fault c.in-Err.ensures.err)

pub returns-then-accept_all-clause-ends : goal.returns-then-accept_all-clause-ends
returns-then-accept_all-clause-ends g c =
    let all : c.accept_all.result ≡ true = search rules in c.accept_all.ensures.all all

pub returns-then-accept_all-clause-read : goal.returns-then-accept_all-clause-read
returns-then-accept_all-clause-read g c =
    read_then g.B.Shelf g.met.B.Shelf.puts_then c.args.shelf.now c.gate_of.new.shelf c.accept_all.new.shelf
    c.in-Ok.ensures.read c.accept_all.ensures.read

pub returns-clause-ends : goal.returns-clause-ends
returns-clause-ends g c =
    let none : c.accept_all.result ≡ false = search rules in c.accept_all.ensures.failed none

pub returns-clause-read : goal.returns-clause-read
returns-clause-read g c =
    read_then g.B.Shelf g.met.B.Shelf.puts_then c.args.shelf.now c.gate_of.new.shelf c.accept_all.new.shelf
    c.in-Ok.ensures.read c.accept_all.ensures.read
