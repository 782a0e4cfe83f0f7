-- What an index answers beyond the definitions of facts and claims.
use Rattle.std.specs.Prelude.{List, ℕ, Option}
use Rattle.std.specs.List.{find}
use Rattle.blobref.specs.Blobref.{is_after}
use Rattle.claim_verify.specs.Verifier.{Accepts}
use Rattle.claim_model.specs.Facts.{Facts}
use Rattle.claim_model.specs.Genuine.{permanodes}

-- the least genuine permanode greater than the other ref: the first such one, as they ascend
abbrev pub permanode_after : Facts → Accepts → Option (List ℕ) → Option (List ℕ)
permanode_after facts accepts other = find (is_after other) (permanodes facts accepts)
