use Rattle.std.proofs.Common.{◌≡◌, take}
use Rattle.blob_http.proofs.replies.front_of.Given as goal

abbrev pub invariant-loop-entry : goal.invariant-loop-entry
invariant-loop-entry l = l.listing ≡ take l.entry-index l.entries
