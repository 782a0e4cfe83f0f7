use Rattle.std.proofs.Common.{List, ℕ, sym, subst, ap, ◌∙◌}
use Rattle.share_gate.specs.Building.{HasRefs}
use Rattle.share_gate.proofs.Reading.{read_nothing}
use Rattle.share_server.proofs.Ending.{built_fault}
use Rattle.share_server.specs.Serving.{refs_of}
use Rattle.share_server.proofs.gating.gate_of.Goals as goal

pub build-requires-clause-refs : goal.build-requires-clause-refs
build-requires-clause-refs g c held is =
    subst (λ (rs : List (List ℕ)). HasRefs rs held)
    (sym (c.in_ok-refs.ensures ∙ ap refs_of c.as_slice.ensures)) (c.requires.facts held is).refs

pub build-requires-clause-facts : goal.build-requires-clause-facts
build-requires-clause-facts g c held is = c.in_ok-index.ensures.facts ∙ (c.requires.facts held is).facts

pub returns-in_err-refs-clause-read : goal.returns-in_err-refs-clause-read
returns-in_err-refs-clause-read g c = read_nothing g.B.Shelf g.met.B.Shelf.puts_nothing c.args.shelf.now

pub returns-in_err-index-clause-read : goal.returns-in_err-index-clause-read
returns-in_err-index-clause-read g c = read_nothing g.B.Shelf g.met.B.Shelf.puts_nothing c.args.shelf.now

pub returns-clause-err : goal.returns-clause-err
returns-clause-err g c =
    built_fault (g.B.Shelf.content c.args.shelf.now) (g.B.Shelf.faults c.args.shelf.now)
    (g.B.Shelf.faults c.build.new.shelf) c.in_ok-refs.refs c.build.result c.build.ensures.err
