use Rattle.std.proofs.Common.{◌≡◌, length, option_map, option_copied}
use Rattle.std.specs.List.{find}
use Rattle.claim_model.specs.Facts.{Entry}
use Rattle.claim_model.specs.Genuine.{is_genuine_permanode}
use Rattle.index_look.specs.Look.{permanode_after}
use Rattle.index_look.specs.Walk.{entries_after}
use Rattle.plain_answers.proofs.answers.permanode_after.Given as goal

-- the first of those that are left is the answer
abbrev pub invariant-walk : goal.invariant-walk
invariant-walk g l =
    option_map (λ (e : Entry). e.0) (find (λ e. is_genuine_permanode (g.T.FactTable.facts l.table) (g.V.Verifier.accepts l.keys) e.0) (entries_after (g.T.FactTable.facts l.table) l.place))
    ≡ permanode_after (g.T.FactTable.facts l.table) (g.V.Verifier.accepts l.keys) (option_copied l.after)

abbrev pub decreases-walk : goal.decreases-walk
decreases-walk g l = length (entries_after (g.T.FactTable.facts l.table) l.place)
