use Rattle.std.proofs.Common.{◌++◌, refl, sym, ap, subst, ◌∙◌}
use Rattle.std.specs.FinMap.{contains_key}
use Rattle.index_rows.specs.Loose.{LooseRow}
use Rattle.histories.specs.History.{events, stamped}
use Rattle.histories.specs.IndexCalls.{InsertSpec}
use Rattle.work_numbers.specs.Telling.{insert_entry}
use Rattle.index_history.specs.Represents.{IndexRepresents}
use Rattle.index_history.proofs.Represents.{undone}
use Rattle.index_history.proofs.work_index.WorkIndex.insert.Goals as goal

pub returns-then-has-clause-kept : goal.returns-then-has-clause-kept
returns-then-has-clause-kept g c = λ h turn t. undone c.args.self.now c.args.self.now h turn t refl refl

pub returns-then-has-clause-says : goal.returns-then-has-clause-says
returns-then-has-clause-says g c = λ h t. (
  sym (t.numbers.inserted c.args.number) ∙ (sym c.has.ensures ∙ c.if-has.true),
  refl,
)

pub insert_made-requires-clause-fresh : goal.insert_made-requires-clause-fresh
insert_made-requires-clause-fresh g c =
    ap (λ (m : LooseRow). contains_key c.args.self.now.work.numbers m.0) c.in_ok-made.ensures
    ∙ (sym c.has.ensures ∙ c.if-has.false)

pub returns-clause-kept : goal.returns-clause-kept
returns-clause-kept g c = λ h turn t.
    subst (λ (m : LooseRow). IndexRepresents c.insert_made.new.self
    (h ++ stamped turn (insert_entry m.0 m.1 m.2 c.insert_made.result)))
    c.in_ok-made.ensures (c.insert_made.ensures.kept h turn t)

pub returns-clause-says : goal.returns-clause-says
returns-clause-says g c = λ h t.
    subst (λ (m : LooseRow). InsertSpec m.0 m.1 m.2 (events h) c.insert_made.result
    (insert_entry m.0 m.1 m.2 c.insert_made.result))
    c.in_ok-made.ensures (c.insert_made.ensures.says h t)
