use Rattle.std.proofs.Common.{◌∙◌, sym, ap, subst}
use Rattle.std.specs.FinMap.{contains_key}
use Rattle.index_rows.specs.Loose.{LooseRow}
use Rattle.histories.specs.History.{events}
use Rattle.histories.specs.IndexCalls.{InsertSpec}
use Rattle.snap_index.specs.Telling.{insert_entry}
use Rattle.snap_index.proofs.Keeping.{entry_moved, held_same}
use Rattle.snap_index.proofs.held.jobs.InsertSnapJob.go.Goals as goal

pub returns-then-has-clause-kept : goal.returns-then-has-clause-kept
returns-then-has-clause-kept g c = λ h t. held_same h c.args.turn t

pub add-requires-clause-fresh : goal.add-requires-clause-fresh
add-requires-clause-fresh g c =
    ap (λ (m : LooseRow). contains_key c.args.held.now.numbers.numbers m.0) c.in-Ok.ensures ∙ (sym c.has.ensures ∙ c.if-has.false)

pub returns-in-Ok-clause-kept : goal.returns-in-Ok-clause-kept
returns-in-Ok-clause-kept g c = λ h t.
    entry_moved h c.args.turn (ap (λ (m : LooseRow). insert_entry m.0 m.1 m.2 c.add.result) c.in-Ok.ensures) (c.add.ensures.kept h t)

pub returns-in-Ok-clause-says : goal.returns-in-Ok-clause-says
returns-in-Ok-clause-says g c = λ h t.
    subst (λ (m : LooseRow). InsertSpec m.0 m.1 m.2 (events h) c.add.result (insert_entry m.0 m.1 m.2 c.add.result)) c.in-Ok.ensures (c.add.ensures.says h t)

pub returns-in-Err-clause-kept : goal.returns-in-Err-clause-kept
returns-in-Err-clause-kept g c = λ h t. held_same h c.args.turn t
