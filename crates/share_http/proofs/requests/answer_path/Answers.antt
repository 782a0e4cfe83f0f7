use Rattle.share_gate.proofs.Reading.{read_nothing}
use Rattle.share_gate.specs.Gates.{gate_verdict}
use Rattle.share_http.proofs.Judging.{absent_answers, denied_answers, served_answers}
use Rattle.share_http.proofs.requests.answer_path.Goals as goal

pub returns-in-Served-clause-answers : goal.returns-in-Served-clause-answers
returns-in-Served-clause-answers g c =
    let e = c.fetch.ensures in
    served_answers g.B.Shelf (gate_verdict c.args.gate.now) c.args.shelf.now c.args.closes c.args.r.now c.args.via.now
    c.fetched_reply.result c.fetch.new.self c.fetch.result c.in-Served.ensures.own e.found e.named e.cause e.later e.is
    c.fetched_reply.ensures

pub returns-in-Served-clause-read : goal.returns-in-Served-clause-read
returns-in-Served-clause-read g c = record {
  told = c.fetch.ensures.told;
  later = c.fetch.ensures.later;
  nothing = c.fetch.ensures.nothing;
}

pub returns-in-Absent-clause-answers : goal.returns-in-Absent-clause-answers
returns-in-Absent-clause-answers g c =
    absent_answers g.B.Shelf (gate_verdict c.args.gate.now) c.args.shelf.now c.args.closes c.args.r.now c.args.via.now
    c.absent.result c.in-Absent.ensures.own c.absent.ensures

pub returns-in-Absent-clause-read : goal.returns-in-Absent-clause-read
returns-in-Absent-clause-read g c = read_nothing g.B.Shelf g.met.B.Shelf.puts_nothing c.args.shelf.now

pub returns-in-Denied-clause-answers : goal.returns-in-Denied-clause-answers
returns-in-Denied-clause-answers g c =
    denied_answers g.B.Shelf (gate_verdict c.args.gate.now) c.args.shelf.now c.args.closes c.args.r.now c.args.via.now
    c.denied.result c.in-Denied.rule c.in-Denied.ensures.own c.denied.ensures

pub returns-in-Denied-clause-read : goal.returns-in-Denied-clause-read
returns-in-Denied-clause-read g c = read_nothing g.B.Shelf g.met.B.Shelf.puts_nothing c.args.shelf.now
