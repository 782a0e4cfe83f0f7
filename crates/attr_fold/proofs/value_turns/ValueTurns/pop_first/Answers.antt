use Rattle.attr_fold.proofs.Popping.{pop_held, pop_taken, pop_none}
use Rattle.attr_fold.proofs.value_turns.ValueTurns.pop_first.Goals as goal

pub returns-clause-held : goal.returns-clause-held
returns-clause-held c =
    pop_held c.self.inside.turns.entries c.pop_first.new.self.entries c.args.self.now c.self.view_is c.pop_first.result
    c.pop_first.ensures.value

pub returns-clause-taken : goal.returns-clause-taken
returns-clause-taken c =
    pop_taken c.self.inside.turns.entries c.pop_first.new.self.entries c.args.self.now c.self.view_is c.pop_first.result
    _ (λ e h. h.0) c.pop_first.ensures.updates

pub returns-clause-none : goal.returns-clause-none
returns-clause-none c =
    pop_none c.self.inside.turns.entries c.pop_first.new.self.entries c.args.self.now c.self.view_is c.pop_first.result
    c.pop_first.ensures.variant.1
