use Rattle.std.proofs.Common.{◌≡◌}
use Rattle.form_urlencoded.specs.Form.{raw_pairs}
use Rattle.form_urlencoded.specs.Parse.{raw_pairs_left}
use Rattle.http_exchange.specs.Parameters.{first_value}
use Rattle.http_exchange.proofs.parameters.first_value.Given as goal

-- the first value among the pairs that are left is that among all
abbrev pub invariant-loop-pair : goal.invariant-loop-pair
invariant-loop-pair l = first_value l.name (raw_pairs l.text) ≡ first_value l.name (raw_pairs_left l.pair-iterator)
