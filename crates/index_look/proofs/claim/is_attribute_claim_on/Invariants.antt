use Rattle.std.proofs.Common.{◌≡◌, drop}
use Rattle.std.specs.List.{list_any}
use Rattle.std.specs.Str.{bytes_eq}
use Rattle.schema_fact.specs.Changes.{changes_of}
use Rattle.index_look.proofs.claim.is_attribute_claim_on.Given as goal

abbrev pub invariant-loop-place : goal.invariant-loop-place
invariant-loop-place l =
    list_any (λ c. bytes_eq l.p c.on) (drop l.place (changes_of l.what)) ≡ list_any (λ c. bytes_eq l.p c.on) (changes_of l.what)
