use Rattle.std.proofs.Common.{◌≡◌, fold}
use Rattle.form_urlencoded.specs.Form.{raw_pairs}
use Rattle.form_urlencoded.specs.Parse.{raw_pairs_left}
use Rattle.blob_routes.specs.Taking.{taken}
use Rattle.blob_routes.proofs.places.take_all.Given as goal

-- what was kept so far, and the pairs that are left, give the whole
abbrev pub invariant-loop-pair : goal.invariant-loop-pair
invariant-loop-pair l = fold taken l.places (raw_pairs_left l.pair-iterator) ≡ fold taken l.fn.places (raw_pairs l.text)
