use Rattle.std.proofs.Common.{◌≡◌, map, fold, filter, drop}
use Rattle.std.specs.Str.{bytes_eq}
use Rattle.schema_fact.specs.Changes.{changes_of}
use Rattle.claim_model.specs.Changes.{change_values}
use Rattle.claim_model.specs.ByClaim.{apply}
use Rattle.index_look.proofs.values.apply.Given as goal

-- what the changes still to come leave of the values so far is what all leave
abbrev pub invariant-loop-place : goal.invariant-loop-place
invariant-loop-place l =
    fold (change_values l.attr) (map (λ t. t.now) l.found.items) (filter (λ c. bytes_eq l.p c.on) (drop l.place (changes_of l.what)))
    ≡ apply l.p l.attr (map (λ t. t.now) l.fn.found.items) l.what
