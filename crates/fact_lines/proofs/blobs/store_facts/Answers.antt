use Rattle.std.proofs.Common.{◌≡◌, [], map, sym, ◌∙◌, ap}
use Rattle.fact_lines.specs.Blobs.{entry_of}
use Rattle.fact_lines.proofs.Gathering.{distinct_shown, valid_shown}
use Rattle.fact_lines.proofs.blobs.store_facts.Goals as goal

pub returns-in-Ok-clause-facts : goal.returns-in-Ok-clause-facts
returns-in-Ok-clause-facts g c = λ held told.
    let shown = c.in-Ok.ensures.shown in
    shown.saw [] c.empty.ensures ∙ ap (map entry_of) (sym (shown.arrived held told))

pub returns-in-Ok-clause-distinct : goal.returns-in-Ok-clause-distinct
returns-in-Ok-clause-distinct g c =
    let shown = c.in-Ok.ensures.shown in
    distinct_shown _ shown.blobs _ (shown.saw [] c.empty.ensures) shown.refs c.arrivals_are_held.ensures.distinct

pub returns-in-Ok-clause-valid : goal.returns-in-Ok-clause-valid
returns-in-Ok-clause-valid g c =
    let shown = c.in-Ok.ensures.shown in
    valid_shown _ shown.blobs (shown.saw [] c.empty.ensures)
