use Rattle.std.proofs.Common.{◌++◌, [], map, ap, sym, ◌∙◌, Option}
use Rattle.std.specs.List.{cons_option}
use Rattle.std.proofs.lemmas.List.{append-nil}
use Rattle.std.proofs.lemmas.Option.{slice_get_past}
use Rattle.histories.specs.Stores.{Blob}
use Rattle.home_core.specs.Steps.{entry_of}
use Rattle.home_core.proofs.searching.add_entry.Goals as goal

-- there is no such number
pub returns-in_default-clause-entries : goal.returns-in_default-clause-entries
returns-in_default-clause-entries c =
    sym (ap (λ (o : Option Blob). c.args.facts.now ++ map entry_of (cons_option o []))
    (slice_get_past c.args.store.now c.args.n c.in_default.ensures.lookup.3)
    ∙ append-nil c.args.facts.now)
