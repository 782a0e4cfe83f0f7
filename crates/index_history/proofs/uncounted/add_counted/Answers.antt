use Rattle.std.proofs.Common.{sym, ap, ◌∙◌}
use Rattle.std.specs.FinMap.{contains_key}
use Rattle.index_history.proofs.Adding.{placed_facts, placed_numbers}
use Rattle.index_history.proofs.uncounted.add_counted.Goals as goal

pub place-requires : goal.place-requires
place-requires g c =
    let absent = ap (contains_key c.args.index.now.facts) (sym c.r.ensures) ∙ sym c.stands.ensures.value ∙ c.if-stands.false in
    record { valid = c.requires.valid; alone = λ fresh. absent; room = λ fresh. c.requires.room }

pub returns-clause-facts : goal.returns-clause-facts
returns-clause-facts g c =
    let absent = ap (contains_key c.args.index.now.facts) (sym c.r.ensures) ∙ sym c.stands.ensures.value ∙ c.if-stands.false in
    placed_facts c.args.index.now c.place.new.self c.args.made c.place.ensures.put absent

pub returns-clause-numbers : goal.returns-clause-numbers
returns-clause-numbers g c = placed_numbers c.args.index.now c.place.new.self c.args.made c.place.ensures.put c.place.ensures.stood
